-- How a manifest is read from the words of its lines, and what it has.
use Rattle.std.specs.Prelude.{ℕ, ◌==◌, Bool, true, false, List, [], ◌∷◌, ◌++◌, codes, bytes_eq, find, if◌then◌else◌, Option, None, Some, option_map, option_and_then}
use Rattle.std.specs.List.{list_any}
use Rattle.rr_words.specs.Numeral.{small_number_of}
use Rattle.rr_tiles.specs.Each.{added}
use Rattle.rr_tiles.specs.Tile.{Face}
use Rattle.rr_tiles.specs.Reading.{tile_of}
use Rattle.rr_tiles.specs.declared.part.Kind.{Kind}
use Rattle.rr_tiles.specs.declared.part.Kind.TheVariants.{Town, City, OffBoard}
use Rattle.rr_tiles.specs.declared.part.Part.{Part}
use Rattle.rr_tiles.specs.declared.part.Part.TheVariants.{Track as OfTrack, Centre as OfCentre}
use Rattle.rr_tiles.specs.declared.supply.Colour.{Colour}
use Rattle.rr_tiles.specs.declared.supply.Colour.TheVariants.{Yellow, Green, Brown}
use Rattle.rr_tiles.specs.declared.supply.Supply.{Supply}

abbrev pub colour_of : List ℕ → Option Colour
colour_of word =
    if bytes_eq word (codes "yellow") then Some Yellow
    else (if bytes_eq word (codes "green") then Some Green
    else (if bytes_eq word (codes "brown") then Some Brown
    else None))

abbrev pub count_of : List ℕ → Option ℕ
count_of [] = None
count_of (mark ∷ digits) = if mark == 120 then small_number_of digits 1 50 else None

-- the colour, the number and the count that three words spell
abbrev pub head_of : List ℕ → List ℕ → List ℕ → Option (Colour × ℕ × ℕ)
head_of colour number count =
    option_and_then (λ c. option_and_then (λ n. option_map (λ k. (c, n, k)) (count_of count)) (small_number_of number 1 999)) (colour_of colour)

abbrev pub is_off_board_kind : Kind → Bool
is_off_board_kind Town = false
is_off_board_kind (City slots) = false
is_off_board_kind (OffBoard later_value) = true

abbrev pub is_off_board : Part → Bool
is_off_board (OfTrack track) = false
is_off_board (OfCentre centre) = is_off_board_kind centre.kind

abbrev pub has_off_board : List Part → Bool
has_off_board parts = list_any is_off_board parts

abbrev pub supply_with : Colour × ℕ × ℕ → Face → Option Supply
supply_with head tile = if has_off_board tile.parts then None else Some (record { colour = head.0; number = head.1; count = head.2; tile = tile })

-- the supply that the words of a line spell
abbrev pub supply_of : List (List ℕ) → Option Supply
supply_of [] = None
supply_of (colour ∷ []) = None
supply_of (colour ∷ number ∷ []) = None
supply_of (colour ∷ number ∷ count ∷ text) = option_and_then (λ head. option_and_then (supply_with head) (tile_of text)) (head_of colour number count)

abbrev pub has_number : List Supply → ℕ → Bool
has_number supplies number = list_any (λ supply. supply.number == number) supplies

-- the supplies with one more, if its number is new
abbrev pub with_supply : List Supply → Supply → Option (List Supply)
with_supply supplies supply = if has_number supplies supply.number then None else Some (supplies ++ supply ∷ [])

abbrev pub add_line : List Supply → List (List ℕ) → Option (List Supply)
add_line supplies words = option_and_then (with_supply supplies) (supply_of words)

-- the supplies that lines spell, no two of one number
abbrev pub supplies_of : List (List (List ℕ)) → Option (List Supply)
supplies_of lines = added add_line [] lines

-- the supply of a number
abbrev pub supply_at : List Supply → ℕ → Option Supply
supply_at supplies number = find (λ supply. supply.number == number) supplies
