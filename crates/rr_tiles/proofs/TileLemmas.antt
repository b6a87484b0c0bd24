-- The tile that words spell, and what a turn keeps.
use Rattle.std.proofs.Common.{◌≡◌, ◌≢◌, ℕ, ◌<◌, zero, suc, refl, sym, ap, ◌∙◌, subst, true, false, List, [], ◌∷◌, ◌++◌, length, map, get_or, filter_map, append-nil, append_assoc, length-append, Option, None, Some, option_to_list, inl, inr, arith}
use Rattle.std.specs.Prelude.{All, AllPairs, IfSome, IfOk, MatchOption, is_some, Result, Ok, Err}
use Rattle.std.proofs.lemmas.Option.{none-some, same_Some}
use Rattle.std.proofs.Math.Seq.{get_or-append_seam}
use Rattle.std.proofs.lemmas.Bool.{false_from_ne_true}
use Rattle.std.proofs.lemmas.List.{map-append, get_or_append_left, length-map}
use Rattle.std.proofs.lemmas.List.Elements.{All-nil, All-push, All-map, All-weaker, filter_map-append}
use Rattle.std.proofs.lemmas.List.Folds.{list_any_at}
use Rattle.std.proofs.lemmas.List.Quantifiers.{all_pairs_push}
use Rattle.rr_tiles.specs.Each.{added}
use Rattle.rr_tiles.specs.Edge.{turned_edge}
use Rattle.rr_tiles.specs.Reading.{add_element, add_word, element_of, is_double, tile_of}
use Rattle.rr_tiles.specs.Sound.{AreEdges, AreNotOneTrack, IsEdge, IsLabel, IsPart, IsTile, IsTrack}
use Rattle.rr_tiles.specs.Spelling.{IsElement, SpellsTile, label_of, part_in, word_of}
use Rattle.rr_tiles.specs.Tile.{Face, IsSameTrack, blank, has_track, is_same_track, is_track_of, turned, turned_part}
use Rattle.rr_tiles.specs.declared.element.Element.{Element}
use Rattle.rr_tiles.specs.declared.element.Element.TheVariants.{Part as OfPart, Label as OfLabel}
use Rattle.rr_tiles.specs.declared.part.Centre.{Centre}
use Rattle.rr_tiles.specs.declared.part.Label.{Label}
use Rattle.rr_tiles.specs.declared.part.Part.{Part}
use Rattle.rr_tiles.specs.declared.part.Part.TheVariants.{Track as OfTrack, Centre as OfCentre}
use Rattle.rr_tiles.specs.declared.part.Track.{Track}
use Rattle.rr_tiles.proofs.EachLemmas.{added-cons, added-kept, added-none}
use Rattle.rr_tiles.proofs.EdgeLemmas.{AllPairs-none, All-tail_of}
use Rattle.rr_tiles.proofs.ElementLemmas.{element_of-found, element_of-word_of}
use Rattle.rr_tiles.proofs.KeepingLemmas.{HasTrack-tested, is_same_track-same}
use Rattle.rr_tiles.proofs.OptionLemmas.{and_then-some, unless-some}

pub IsTile-blank : IsTile blank
IsTile-blank = record { sound_parts = All-nil IsPart; tracks_once = AllPairs-none AreNotOneTrack; sound_label = tt }

IsSameTrack-back : (track other : Track) → IsSameTrack track other → IsSameTrack other track
IsSameTrack-back track other same =
    elim same [
      | inl p ↦ inl (sym p.0, sym p.1)
      | inr p ↦ inr (sym p.1, sym p.0)
    ]

-- a part that isn't there already
AreNotOneTrack-tested : (other : Part) (track : Track) → is_track_of track other ≡ false → AreNotOneTrack other (OfTrack track)
AreNotOneTrack-tested (OfTrack other) track apart = λ same. let one : is_same_track track other ≡ true = is_same_track-same track other (IsSameTrack-back other track same) in absurd (cc)
AreNotOneTrack-tested (OfCentre centre) track apart = tt

AreNotOneTrack-centre : (other : Part) (centre : Centre) → AreNotOneTrack other (OfCentre centre)
AreNotOneTrack-centre (OfTrack track) centre = tt
AreNotOneTrack-centre (OfCentre other) centre = tt

not_double : (parts : List Part) (part : Part) → is_double parts part ≡ false → (k : ℕ) (d : Part) → k < length parts → AreNotOneTrack (get_or parts k d) part
not_double parts (OfTrack track) single k d within =
    AreNotOneTrack-tested (get_or parts k d) track (false_from_ne_true (is_track_of track (get_or parts k d)) (λ same.
    let there : has_track parts track ≡ true = list_any_at (is_track_of track) parts k d within same in
    cc))
not_double parts (OfCentre centre) single k d within = AreNotOneTrack-centre (get_or parts k d) centre

pub IsTile-part : (face : Face) (part : Part) → IsTile face → IsPart part → is_double face.parts part ≡ false → IsTile (record { parts = face.parts ++ part ∷ []; label = face.label })
IsTile-part face part tile sound single = record {
  sound_parts = All-push IsPart face.parts part tile.sound_parts sound;
  tracks_once = all_pairs_push AreNotOneTrack face.parts part tile.tracks_once (not_double face.parts part single);
  sound_label = tile.sound_label;
}

pub IsTile-label : (face : Face) (label : Label) → IsTile face → IsLabel label → IsTile (record { parts = face.parts; label = Some label })
IsTile-label face label tile sound = record { sound_parts = tile.sound_parts; tracks_once = tile.tracks_once; sound_label = sound }

pub element_of-part : (word : List ℕ) (part : Part) → Some (OfPart part) ≡ element_of word → IsPart part
element_of-part word part is = (element_of-found word (OfPart part) (sym is)).sound

pub element_of-label_sound : (word : List ℕ) (label : Label) → Some (OfLabel label) ≡ element_of word → IsLabel label
element_of-label_sound word label is = (element_of-found word (OfLabel label) (sym is)).sound

-- a word more
no_label : (label : Option Label) → is_some label ≡ false → label ≡ None
no_label None none = refl
no_label (Some label) none = absurd (cc)

SpellsTile-more : (face next : Face) (words : List (List ℕ)) (element : Element) → SpellsTile words face → IsElement element → add_element face element ≡ Some next → SpellsTile (words ++ word_of element ∷ []) next
SpellsTile-more face next words (OfPart part) so_far sound is =
    let kept = unless-some (is_double face.parts part) (record { parts = face.parts ++ part ∷ []; label = face.label }) next is in
    subst (SpellsTile (words ++ word_of (OfPart part) ∷ [])) kept.1 (record {
      elements = so_far.elements ++ OfPart part ∷ [];
      words_are = ap (λ front. front ++ word_of (OfPart part) ∷ []) so_far.words_are ∙ sym (map-append word_of so_far.elements (OfPart part ∷ []));
      parts_are = ap (λ front. front ++ part ∷ []) so_far.parts_are ∙ sym (filter_map-append part_in so_far.elements (OfPart part ∷ []));
      label_is = so_far.label_is ∙ sym (append-nil (filter_map label_of so_far.elements)) ∙ sym (filter_map-append label_of so_far.elements (OfPart part ∷ []));
      is_tile = IsTile-part face part so_far.is_tile sound kept.0;
    })
SpellsTile-more face next words (OfLabel label) so_far sound is =
    let kept = unless-some (is_some face.label) (record { parts = face.parts; label = Some label }) next is in
    let none : filter_map label_of so_far.elements ≡ [] = sym so_far.label_is ∙ ap (λ l. option_to_list l) (no_label face.label kept.0) in
    subst (SpellsTile (words ++ word_of (OfLabel label) ∷ [])) kept.1 (record {
      elements = so_far.elements ++ OfLabel label ∷ [];
      words_are = ap (λ front. front ++ word_of (OfLabel label) ∷ []) so_far.words_are ∙ sym (map-append word_of so_far.elements (OfLabel label ∷ []));
      parts_are = so_far.parts_are ∙ sym (append-nil (filter_map part_in so_far.elements)) ∙ sym (filter_map-append part_in so_far.elements (OfLabel label ∷ []));
      label_is = ap (λ front. front ++ label ∷ []) (sym none) ∙ sym (filter_map-append label_of so_far.elements (OfLabel label ∷ []));
      is_tile = IsTile-label face label so_far.is_tile sound;
    })

SpellsTile-next : (face next : Face) (words : List (List ℕ)) (word : List ℕ) → SpellsTile words face → add_word face word ≡ Some next → SpellsTile (words ++ word ∷ []) next
SpellsTile-next face next words word so_far is =
    let one = and_then-some (add_element face) (element_of word) next is in
    let found = element_of-found word one.0 one.1 in
    subst (λ w. SpellsTile (words ++ w ∷ []) next) (sym found.word_is) (SpellsTile-more face next words one.0 so_far found.sound one.2)

-- the words spell what is read from them
pub tile_of-found : (words : List (List ℕ)) (face : Face) → tile_of words ≡ Some face → SpellsTile words face
tile_of-found words face is =
    added-kept add_word (λ so_far front. SpellsTile front so_far) blank (record { elements = []; words_are = refl; parts_are = refl; label_is = refl; is_tile = IsTile-blank }) SpellsTile-next words face is

-- the parts behind some are no double of theirs
is_double-apart : (front : List Part) (part : Part) (rest : List Part) → AllPairs AreNotOneTrack (front ++ part ∷ rest) → is_double front part ≡ false
is_double-apart front (OfTrack track) rest once =
    false_from_ne_true (has_track front track) (λ there.
    let has = HasTrack-tested front track there in
    let last : length front < length (front ++ OfTrack track ∷ rest) = omega (arith, length-append front (OfTrack track ∷ rest)) in
    let pair : AreNotOneTrack (get_or (front ++ OfTrack track ∷ rest) has.among.0 (OfTrack has.other)) (get_or (front ++ OfTrack track ∷ rest) (length front) (OfTrack has.other)) = once has.among.0 (length front) (OfTrack has.other) has.among.1 last in
    let apart : AreNotOneTrack (OfTrack has.other) (OfTrack track) = rw (get_or_append_left front (OfTrack track ∷ rest) (OfTrack has.other) has.among.0 has.among.1, has.among.2, get_or-append_seam front (OfTrack track) rest (OfTrack has.other)) at pair in
    apart (IsSameTrack-back track has.other has.same))
is_double-apart front (OfCentre centre) rest once = refl

option_to_list-same : {X : Type 0} (a b : Option X) → option_to_list a ≡ option_to_list b → a ≡ b
option_to_list-same None None same = refl
option_to_list-same None (Some b) same = absurd (cc)
option_to_list-same (Some a) None same = absurd (cc)
option_to_list-same (Some a) (Some b) same = let one : a ≡ b = cc in ap (λ x. Some x) one

-- with a label among the elements, there was none before
label-first : (before : Option Label) (label : Label) (rest : List Label) (whole : Option Label) → option_to_list whole ≡ option_to_list before ++ label ∷ rest → before ≡ None
label-first None label rest whole is = refl
label-first (Some before) label rest None is = absurd (cc)
label-first (Some before) label rest (Some whole) is = absurd (omega (arith, ap length is))

label-sound : (label : Label) (rest : List Label) (whole : Option Label) → option_to_list whole ≡ label ∷ rest → IfSome whole IsLabel → IsLabel label
label-sound label rest None is sound = absurd (cc)
label-sound label rest (Some whole) is sound = let same : whole ≡ label = cc in subst IsLabel same sound

-- the elements behind what is read so far
record AreBehind (front face : Face) (elements : List Element) : Type 0 where
  parts_are : face.parts ≡ front.parts ++ filter_map part_in elements
  label_is : option_to_list face.label ≡ option_to_list front.label ++ filter_map label_of elements

tile_of-again : (front face : Face) (elements : List Element) → AreBehind front face elements → IsTile face → added add_word front (map word_of elements) ≡ Some face
tile_of-again front face [] behind tile =
    let parts : face.parts ≡ front.parts = behind.parts_are ∙ append-nil front.parts in
    let label : face.label ≡ front.label = option_to_list-same face.label front.label (behind.label_is ∙ append-nil (option_to_list front.label)) in
    added-none add_word front ∙ ap (λ p. Some (record { parts = p; label = front.label })) (sym parts) ∙ ap (λ l. Some (record { parts = face.parts; label = l })) (sym label)
tile_of-again front face (OfPart part ∷ rest) behind tile =
    let all : All IsPart (front.parts ++ part ∷ filter_map part_in rest) = subst (All IsPart) behind.parts_are tile.sound_parts in
    let sound : IsPart part = All-tail_of IsPart front.parts part (filter_map part_in rest) all in
    let once : AllPairs AreNotOneTrack (front.parts ++ part ∷ filter_map part_in rest) = subst (AllPairs AreNotOneTrack) behind.parts_are tile.tracks_once in
    let next : Face = record { parts = front.parts ++ part ∷ []; label = front.label } in
    let step : add_word front (word_of (OfPart part)) ≡ Some next = rw (element_of-word_of (OfPart part) sound, is_double-apart front.parts part (filter_map part_in rest) once) refl in
    added-cons add_word front next (word_of (OfPart part)) (map word_of rest) step
    ∙ tile_of-again next face rest (record {
      parts_are = behind.parts_are ∙ sym (append_assoc front.parts (part ∷ []) (filter_map part_in rest));
      label_is = behind.label_is;
    }) tile
tile_of-again front face (OfLabel label ∷ rest) behind tile =
    let before : front.label ≡ None = label-first front.label label (filter_map label_of rest) face.label behind.label_is in
    let only : option_to_list face.label ≡ label ∷ filter_map label_of rest = rw before at behind.label_is in
    let sound : IsLabel label = label-sound label (filter_map label_of rest) face.label only tile.sound_label in
    let next : Face = record { parts = front.parts; label = Some label } in
    let step : add_word front (word_of (OfLabel label)) ≡ Some next = rw (element_of-word_of (OfLabel label) sound, before) refl in
    added-cons add_word front next (word_of (OfLabel label)) (map word_of rest) step
    ∙ tile_of-again next face rest (record { parts_are = behind.parts_are; label_is = only }) tile

-- what words spell is read from them
pub tile_of-spelled : (words : List (List ℕ)) (face : Face) → SpellsTile words face → tile_of words ≡ Some face
tile_of-spelled words face spelled =
    ap tile_of spelled.words_are ∙ tile_of-again blank face spelled.elements (record { parts_are = spelled.parts_are; label_is = spelled.label_is }) spelled.is_tile

-- a turn moves different edges to different ones
turned_edge-different : (turn a b : ℕ) → IsEdge a → IsEdge b → turned_edge turn a ≡ turned_edge turn b → a ≡ b
turned_edge-different turn a b first second same = omega arith

turned_edge-small : (turn edge : ℕ) → IsEdge (turned_edge turn edge)
turned_edge-small turn edge = omega arith

get_or-map : {X Y : Type 0} (f : X → Y) (xs : List X) (k : ℕ) (x : X) (y : Y) → k < length xs → get_or (map f xs) k y ≡ f (get_or xs k x)
get_or-map f [] k x y within = absurd (omega arith)
get_or-map f (first ∷ rest) zero x y within = refl
get_or-map f (first ∷ rest) (suc k) x y within = get_or-map f rest k x y (omega arith)

AllPairs-map : {X Y : Type 0} (P : X → Type 0) (R : X → X → Type 0) (S : Y → Y → Type 0) (f : X → Y) → ((a b : X) → P a → P b → R a b → S (f a) (f b)) → (xs : List X) → All P xs → AllPairs R xs → AllPairs S (map f xs)
AllPairs-map P R S f keeps [] all pairs i j y lt within = absurd (omega arith)
AllPairs-map P R S f keeps (x ∷ xs) all pairs i j y lt within =
    let last : j < length (x ∷ xs) = omega (arith, within, length-map (x ∷ xs) f) in
    let first : i < length (x ∷ xs) = omega arith in
    let pair = keeps (get_or (x ∷ xs) i x) (get_or (x ∷ xs) j x) (all i x first) (all j x last) (pairs i j x lt last) in
    subst (λ a. S a (get_or (map f (x ∷ xs)) j y)) (sym (get_or-map f (x ∷ xs) i x y first)) (subst (S (f (get_or (x ∷ xs) i x))) (sym (get_or-map f (x ∷ xs) j x y last)) pair)

IsTrack-turned : (turn : ℕ) (track : Track) → IsTrack track → IsPart (turned_part turn (OfTrack track))
IsTrack-turned turn track sound = record {
  from_edge = turned_edge-small turn track.from;
  to_edge = turned_edge-small turn track.to;
  different = λ same. sound.different (turned_edge-different turn track.from track.to sound.from_edge sound.to_edge same);
}

AreEdges-turned : (turn : ℕ) (edges : List ℕ) → AreEdges edges → AreEdges (map (turned_edge turn) edges)
AreEdges-turned turn edges sound = record {
  each = All-map IsEdge (turned_edge turn) edges (All-weaker IsEdge (λ edge. IsEdge (turned_edge turn edge)) (λ edge small. turned_edge-small turn edge) edges sound.each);
  different = AllPairs-map IsEdge ◌≢◌ ◌≢◌ (turned_edge turn) (λ a b first second apart same. apart (turned_edge-different turn a b first second same)) edges sound.each sound.different;
}

IsPart-turned : (turn : ℕ) (part : Part) → IsPart part → IsPart (turned_part turn part)
IsPart-turned turn (OfTrack track) sound = IsTrack-turned turn track sound
IsPart-turned turn (OfCentre centre) sound = record { sound_kind = sound.sound_kind; sound_value = sound.sound_value; sound_edges = AreEdges-turned turn centre.edges sound.sound_edges }

AreNotOneTrack-turned : (turn : ℕ) (part other : Part) → IsPart part → IsPart other → AreNotOneTrack part other → AreNotOneTrack (turned_part turn part) (turned_part turn other)
AreNotOneTrack-turned turn (OfTrack track) (OfTrack other) first second apart = λ same. elim same [
  | inl p ↦ apart (inl (turned_edge-different turn track.from other.from first.from_edge second.from_edge p.0, turned_edge-different turn track.to other.to first.to_edge second.to_edge p.1))
  | inr p ↦ apart (inr (turned_edge-different turn track.from other.to first.from_edge second.to_edge p.0, turned_edge-different turn track.to other.from first.to_edge second.from_edge p.1))
]
AreNotOneTrack-turned turn (OfTrack track) (OfCentre centre) first second apart = tt
AreNotOneTrack-turned turn (OfCentre centre) (OfTrack track) first second apart = tt
AreNotOneTrack-turned turn (OfCentre centre) (OfCentre other) first second apart = tt

pub IsTile-turned : (turn : ℕ) (face : Face) → IsTile face → IsTile (turned turn face)
IsTile-turned turn face tile = record {
  sound_parts = All-map IsPart (turned_part turn) face.parts (All-weaker IsPart (λ part. IsPart (turned_part turn part)) (IsPart-turned turn) face.parts tile.sound_parts);
  tracks_once = AllPairs-map IsPart AreNotOneTrack AreNotOneTrack (turned_part turn) (AreNotOneTrack-turned turn) face.parts tile.sound_parts tile.tracks_once;
  sound_label = tile.sound_label;
}

-- what a reader gives is spelled, and what is spelled it gives
read_is-spelled : (words : List (List ℕ)) (read : Option Face) → read ≡ tile_of words → MatchOption read ((other : Face) → ¬ SpellsTile words other) (λ face. SpellsTile words face)
read_is-spelled words None is = λ other spelled. let some : tile_of words ≡ Some other = tile_of-spelled words other spelled in absurd (none-some other (is ∙ some))
read_is-spelled words (Some face) is = tile_of-found words face (sym is)

read_is-only : (words : List (List ℕ)) (read : Option Face) → read ≡ tile_of words → IfSome read (λ face. (other : Face) → SpellsTile words other → other ≡ face)
read_is-only words None is = tt
read_is-only words (Some face) is = λ other spelled. same_Some other face (sym (tile_of-spelled words other spelled) ∙ sym is)

pub read-spelled : {E : Type 0} (words : List (List ℕ)) (read : Result (Option Face) E) → IfOk read (λ o. o ≡ tile_of words) → IfOk read (λ o. MatchOption o ((other : Face) → ¬ SpellsTile words other) (λ face. SpellsTile words face))
read-spelled words (Ok read) is = read_is-spelled words read is
read-spelled words (Err error) is = tt

pub read-only : {E : Type 0} (words : List (List ℕ)) (read : Result (Option Face) E) → IfOk read (λ o. o ≡ tile_of words) → IfOk read (λ o. IfSome o (λ face. (other : Face) → SpellsTile words other → other ≡ face))
read-only words (Ok read) is = read_is-only words read is
read-only words (Err error) is = tt
