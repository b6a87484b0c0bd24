-- How a word spells a cell.
use Rattle.std.specs.Prelude.{◌≡◌, ℕ, ◌-◌, ◌≤◌, ◌==◌, ◌&&◌, Bool, true, false, List, [], ◌++◌, length, take, slice_index, codes, decimal, if◌then◌else◌, Option, None, Some, option_map, IfSome}
use Rattle.rr_words.specs.Numeral.{small_number_of}
use Rattle.rr_roster.specs.declared.chart.cell.Cell.{Cell}
use Rattle.rr_roster.specs.declared.chart.cell.Zone.{Zone}
use Rattle.rr_roster.specs.declared.chart.cell.Zone.TheVariants.{White, Yellow, Orange, Brown}

abbrev pub zone_letter : Zone → List ℕ
zone_letter White = []
zone_letter Yellow = codes "y"
zone_letter Orange = codes "o"
zone_letter Brown = codes "b"

-- what stands behind the price
abbrev pub mark_of : Cell → List ℕ
mark_of cell = if cell.is_par then codes "p" else zone_letter cell.zone

-- the word of a cell, or of a place without one
abbrev pub word_of : Option Cell → List ℕ
word_of None = codes "."
word_of (Some cell) = decimal cell.price ++ mark_of cell

-- a price from 1 to 999, and a par cell is white
pub record IsCell (cell : Cell) : Type 0 where
  pub from_1 : 1 ≤ cell.price
  pub to_999 : cell.price ≤ 999
  pub par_white : cell.is_par ≡ true → cell.zone ≡ White

abbrev pub IsSound : Option Cell → Type 0
IsSound cell = IfSome cell IsCell

-- the cell of a price in digits
abbrev pub priced : List ℕ → Zone → Bool → Option (Option Cell)
priced digits zone is_par = option_map (λ price. Some (record { price = price; zone = zone; is_par = is_par })) (small_number_of digits 1 999)

-- what a word with this front and this last character spells
abbrev pub ending : List ℕ → ℕ → List ℕ → Option (Option Cell)
ending front last word =
    if last == 121 then priced front Yellow false
    else (if last == 111 then priced front Orange false
    else (if last == 98 then priced front Brown false
    else (if last == 112 then priced front White true
    else (if last == 46 && length word == 1 then Some None
    else priced word White false))))

-- what a word spells, if anything
abbrev pub cell_of : List ℕ → Option (Option Cell)
cell_of word = ending (take (length word - 1) word) (slice_index word (length word - 1)) word
