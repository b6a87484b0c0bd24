-- How a tile is read from the words of its text.
use Rattle.std.specs.Prelude.{ℕ, ◌+◌, ◌%◌, ◌==◌, ◌&&◌, ◌||◌, Bool, false, List, [], ◌∷◌, ◌++◌, take, drop, position, if◌then◌else◌, Option, None, Some, option_map, option_and_then, is_some}
use Rattle.std.specs.Char.{is_ascii_uppercase}
use Rattle.rr_words.specs.Numeral.{small_number_of}
use Rattle.rr_tiles.specs.Each.{added}
use Rattle.rr_tiles.specs.Edge.{edge_in, edges_of}
use Rattle.rr_tiles.specs.Tile.{Face, blank, has_track}
use Rattle.rr_tiles.specs.declared.part.Kind.{Kind}
use Rattle.rr_tiles.specs.declared.part.Kind.TheVariants.{Town, City, OffBoard}
use Rattle.rr_tiles.specs.declared.part.Label.{Label}
use Rattle.rr_tiles.specs.declared.part.Part.{Part}
use Rattle.rr_tiles.specs.declared.part.Part.TheVariants.{Track as OfTrack, Centre as OfCentre}
use Rattle.rr_tiles.specs.declared.element.Element.{Element}
use Rattle.rr_tiles.specs.declared.element.Element.TheVariants.{Part as OfPart, Label as OfLabel}

abbrev pub cut_at : List ℕ → ℕ → List ℕ × List ℕ
cut_at word at = (take at word, drop (at + 1) word)

abbrev pub place_of : ℕ → List ℕ → Option ℕ
place_of mark word = position (λ c. c == mark) word

-- what stands before and behind the first of these characters
abbrev pub cut_of : ℕ → List ℕ → Option (List ℕ × List ℕ)
cut_of mark word = option_map (cut_at word) (place_of mark word)

-- a multiple of 10 from 0 to 990
abbrev pub kept_value : ℕ → Option ℕ
kept_value n = if n % 10 == 0 then Some n else None

abbrev pub value_of : List ℕ → Option ℕ
value_of word = option_and_then kept_value (small_number_of word 0 990)

-- a city's slots or an off-board area's later value
abbrev pub kind_of : ℕ → List ℕ → Option Kind
kind_of letter word = if letter == 99 then option_map (λ slots. City slots) (small_number_of word 1 4) else option_map (λ later. OffBoard later) (value_of word)

abbrev pub kind_and_value : ℕ → List ℕ × List ℕ → Option (Kind × ℕ)
kind_and_value letter numbers = option_and_then (λ value. option_map (λ kind. (kind, value)) (kind_of letter numbers.1)) (value_of numbers.0)

-- the kind and the value of a centre, of its letter and what stands before the colon
abbrev pub front_of : ℕ → List ℕ → Option (Kind × ℕ)
front_of letter front =
    if letter == 116 then option_map (λ value. (Town, value)) (value_of front)
    else option_and_then (kind_and_value letter) (cut_of 47 front)

abbrev pub centre_with : List ℕ → Kind × ℕ → Option Element
centre_with text front = option_map (λ edges. OfPart (OfCentre (record { kind = front.0; value = front.1; edges = edges }))) (edges_of text)

abbrev pub centre_of : ℕ → List ℕ × List ℕ → Option Element
centre_of letter parts = option_and_then (centre_with parts.1) (front_of letter parts.0)

-- the centre of a letter and what stands behind it
abbrev pub centre_in : ℕ → List ℕ → Option Element
centre_in letter rest = option_and_then (centre_of letter) (cut_of 58 rest)

abbrev pub letters_in : ℕ → Option ℕ → Option Element
letters_in first second = Some (OfLabel (record { first = first; second = second }))

abbrev pub label_in : List ℕ → Option Element
label_in [] = None
label_in (mark ∷ []) = None
label_in (mark ∷ first ∷ []) = if mark == 61 && is_ascii_uppercase first then letters_in first None else None
label_in (mark ∷ first ∷ second ∷ []) = if mark == 61 && (is_ascii_uppercase first && is_ascii_uppercase second) then letters_in first (Some second) else None
label_in (mark ∷ first ∷ second ∷ more ∷ rest) = None

abbrev pub different_edges : ℕ → ℕ → Option Element
different_edges from to = if from == to then None else Some (OfPart (OfTrack (record { from = from; to = to })))

abbrev pub track_in : List ℕ → Option Element
track_in [] = None
track_in (from ∷ []) = None
track_in (from ∷ mark ∷ []) = None
track_in (from ∷ mark ∷ to ∷ []) = if mark == 45 then option_and_then (λ a. option_and_then (λ b. different_edges a b) (edge_in to)) (edge_in from) else None
track_in (from ∷ mark ∷ to ∷ more ∷ rest) = None

-- the track, the centre or the label that a word spells
abbrev pub element_of : List ℕ → Option Element
element_of [] = None
element_of (first ∷ rest) =
    if first == 76 then label_in rest
    else (if first == 116 || (first == 99 || first == 111) then centre_in first rest
    else track_in (first ∷ rest))

-- whether the part is a track that is there already
abbrev pub is_double : List Part → Part → Bool
is_double parts (OfTrack track) = has_track parts track
is_double parts (OfCentre centre) = false

abbrev pub add_part : Face → Part → Option Face
add_part face part = if is_double face.parts part then None else Some (record { parts = face.parts ++ part ∷ []; label = face.label })

abbrev pub add_label : Face → Label → Option Face
add_label face label = if is_some face.label then None else Some (record { parts = face.parts; label = Some label })

-- the tile with one part or the label more, if it may have it
abbrev pub add_element : Face → Element → Option Face
add_element face (OfPart part) = add_part face part
add_element face (OfLabel label) = add_label face label

abbrev pub add_word : Face → List ℕ → Option Face
add_word face word = option_and_then (add_element face) (element_of word)

-- the tile that words spell
abbrev pub tile_of : List (List ℕ) → Option Face
tile_of words = added add_word blank words
