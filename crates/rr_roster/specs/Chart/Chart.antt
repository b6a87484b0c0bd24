-- The places of a chart, which is a list of rows from the top, each of cells from the left.
use Rattle.std.specs.Prelude.{◌≡◌, ◌≢◌, ℕ, ◌+◌, ◌-◌, ◌≤◌, ◌<◌, ◌==◌, true, List, [], ◌∷◌, ◌++◌, length, slice_get, find, filter_map, flat_map, if◌then◌else◌, Option, None, Some, option_map, option_and_then, is_some, All, AllPairs}
use Rattle.std.specs.List.{enumerate_from}
use Rattle.std.specs.Option.{option_map_or}
use Rattle.rr_roster.specs.Chart.Cell.{IsSound}
use Rattle.rr_roster.specs.declared.chart.cell.Cell.{Cell}
use Rattle.rr_roster.specs.declared.chart.cell.Place.{Place}
use Rattle.rr_roster.specs.declared.chart.cell.ParCell.{ParCell}

abbrev pub Row : Type 0
Row = List (Option Cell)

abbrev pub cell_in : Row → ℕ → Option Cell
cell_in row column = option_and_then (λ cell. cell) (slice_get row column)

abbrev pub cell_at : List Row → Place → Option Cell
cell_at rows place = option_and_then (λ row. cell_in row place.column) (slice_get rows place.row)

abbrev pub width_of : List Row → ℕ → ℕ
width_of rows row = option_map_or length (slice_get rows row) 0

-- the place, if it has a cell
abbrev pub with_cell : List Row → Place → Option Place
with_cell rows place = if is_some (cell_at rows place) then Some place else None

abbrev pub right_of : List Row → Place → Option Place
right_of rows place = with_cell rows (record { row = place.row; column = place.column + 1 })

abbrev pub left_of : List Row → Place → Option Place
left_of rows place = if place.column == 0 then None else with_cell rows (record { row = place.row; column = place.column - 1 })

abbrev pub up_of : List Row → Place → Option Place
up_of rows place = if place.row == 0 then None else with_cell rows (record { row = place.row - 1; column = place.column })

abbrev pub down_of : List Row → Place → Option Place
down_of rows place = with_cell rows (record { row = place.row + 1; column = place.column })

-- the par cell that a cell is at its place
abbrev pub par_at : Place → Option Cell → Option ParCell
par_at place cell = option_and_then (λ c. if c.is_par then Some (record { price = c.price; place = place }) else None) cell

abbrev pub par_in : ℕ → ℕ × Option Cell → Option ParCell
par_in row at = par_at (record { row = row; column = at.0 }) at.1

unfoldable pub pars_in : ℕ × Row → List ParCell
pars_in at = filter_map (par_in at.0) (enumerate_from 0 at.1)

-- the par cells, in reading order
unfoldable pub pars_of : List Row → List ParCell
pars_of rows = flat_map pars_in (enumerate_from 0 rows)

-- the chart has a par cell of the price at the place
pub record IsParOf (rows : List Row) (par : ParCell) : Type 0 where
  pub cell : Cell
  pub at_place : cell_at rows par.place ≡ Some cell
  pub price : cell.price ≡ par.price
  pub is_par : cell.is_par ≡ true

-- the place of the first par cell of a price
abbrev pub par_place : List Row → ℕ → Option Place
par_place rows price = option_map (λ par. par.place) (find (λ par. par.price == price) (pars_of rows))

abbrev pub HaveDifferentPrices : ParCell → ParCell → Type 0
HaveDifferentPrices par other = par.price ≢ other.price

-- the rows above and the first cells of the row below them are where a chart may begin
pub record IsFront (above : List Row) (cells : Row) : Type 0 where
  pub rows : length above ≤ 16
  pub one_more : 1 ≤ length cells → length above < 16
  pub columns : All (λ row. length row ≤ 24) above
  pub row_columns : length cells ≤ 24
  pub sound : All (All IsSound) above
  pub row_sound : All IsSound cells
  pub pars : AllPairs HaveDifferentPrices (pars_of (above ++ cells ∷ []))

-- at most 16 rows and 24 columns, and par cells of which no two have one price
pub record IsChart (rows : List Row) : Type 0 where
  pub front : IsFront rows []
  pub some_par : 1 ≤ length (pars_of rows)
