-- How a corporation's token moves over the chart, and the mark by which it moves. A token that stays gets no mark.
use Rattle.std.specs.Prelude.{◌≡◌, ℕ, zero, suc, ◌+◌, ◌≤◌, ◌<◌, true, false, is_some, refl, ◌==◌, ◌&&◌, Bool, List, [], ◌∷◌, Option, None, Some, option_map, option_and_then, unwrap_or, if◌then◌else◌}
use Rattle.std.specs.Option.{option_or}
use Rattle.std.proofs.Common.{add-one}
use Rattle.rr_roster.specs.declared.company.Corp.{Corp}
use Rattle.rr_roster.specs.Chart.Chart.{Row, cell_at, right_of, left_of, up_of, down_of, par_place}
use Rattle.rr_roster.specs.declared.chart.cell.Place.{Place}
use Rattle.rr_books.specs.declared.entries.Cell.{Cell}
use Rattle.rr_books.specs.declared.entries.Entry.TheVariants as E
use Rattle.rr_books.specs.Book.{Book}
use Rattle.rr_market.specs.Marks.{mark_of, place_of}

-- the book's cell of a place of the chart
abbrev pub cell_of : Place → Cell
cell_of place = record { row = place.row; column = place.column }

-- the next cell in each direction, if the chart has one there
abbrev pub cell_right : List Row → Cell → Option Cell
cell_right rows cell = option_map cell_of (right_of rows (place_of cell))

abbrev pub cell_left : List Row → Cell → Option Cell
cell_left rows cell = option_map cell_of (left_of rows (place_of cell))

abbrev pub cell_above : List Row → Cell → Option Cell
cell_above rows cell = option_map cell_of (up_of rows (place_of cell))

abbrev pub cell_below : List Row → Cell → Option Cell
cell_below rows cell = option_map cell_of (down_of rows (place_of cell))

-- where a paid dividend moves a token: right, at the right edge up
abbrev pub cell_after_paying : List Row → Cell → Option Cell
cell_after_paying rows cell = option_or (cell_right rows cell) (cell_above rows cell)

-- where a withheld dividend moves a token: left, at the left edge down
abbrev pub cell_after_withholding : List Row → Cell → Option Cell
cell_after_withholding rows cell = option_or (cell_left rows cell) (cell_below rows cell)

-- one row down, or the same cell above a missing one
abbrev pub fallen : List Row → Cell → Cell
fallen rows cell = unwrap_or (cell_below rows cell) cell

-- so many rows down, stopping above the first missing cell
unfoldable pub fallen_by : List Row → ℕ → Cell → Cell
fallen_by rows zero cell = cell
fallen_by rows (suc n) cell = fallen rows (fallen_by rows n cell)

pub fallen_by-none : (rows : List Row) (cell : Cell) → fallen_by rows 0 cell ≡ cell
unfolding fallen_by
fallen_by-none rows cell = refl

pub fallen_by-more : (rows : List Row) (n : ℕ) (cell : Cell) → fallen_by rows (n + 1) cell ≡ fallen rows (fallen_by rows n cell)
unfolding fallen_by
fallen_by-more rows n cell = rw (add-one n) refl

-- a token fell from one cell to another: by at most so many rows, each of them with a cell, and by fewer only to a cell
-- above a missing one
pub record IsFall (rows : List Row) (n : ℕ) (from to : Cell) : Type 0 where
  pub column : to.column ≡ from.column
  pub depth : ℕ
  pub row : to.row ≡ from.row + depth
  pub within : depth ≤ n
  pub there : (k : ℕ) → k < depth → is_some (cell_at rows (record { row = from.row + k + 1; column = from.column })) ≡ true
  pub stopped : depth < n → is_some (cell_at rows (record { row = to.row + 1; column = to.column })) ≡ false

-- a sale drops a token so on every chart
abbrev pub SalesFall : Type 0
SalesFall = (rows : List Row) (n : ℕ) (cell : Cell) → IsFall rows n cell (fallen_by rows n cell)

abbrev pub same_cell : Cell → Cell → Bool
same_cell a b = (a.row == b.row) && (a.column == b.column)

-- the cell, if it is another than that of the token
abbrev pub if_moved : Cell → Cell → Option Cell
if_moved from to = if same_cell from to then None else Some to

-- where a sale of so many 10% shares moves a token
abbrev pub cell_after_sale : List Row → ℕ → Cell → Option Cell
cell_after_sale rows n cell = if_moved cell (fallen_by rows n cell)

-- the mark of a corporation's token at a cell, if there is one
abbrev pub mark_at : Corp → Option Cell → Book
mark_at c None = []
mark_at c (Some cell) = E.Mark c cell ∷ []

-- the mark by which a corporation's token moves from its cell, if it has one
abbrev pub moves_token : (Cell → Option Cell) → Corp → Book → Book
moves_token target c book = mark_at c (option_and_then target (mark_of book c))

-- a price at which a corporation may begin: one of which the chart has a par cell
abbrev pub is_par : List Row → ℕ → Bool
is_par rows price = is_some (par_place rows price)

-- the mark of a corporation that sets its par, if the chart has that par cell
abbrev pub par_marks : List Row → Corp → ℕ → Book → Book
par_marks rows c par book = mark_at c (option_map cell_of (par_place rows par))

-- the mark of a corporation that pays a dividend
abbrev pub dividend_marks : List Row → Corp → Book → Book
dividend_marks rows = moves_token (cell_after_paying rows)

-- the mark of a corporation that withholds its dividend
abbrev pub withholding_marks : List Row → Corp → Book → Book
withholding_marks rows = moves_token (cell_after_withholding rows)

-- the mark of a corporation of which so many 10% shares are sold
abbrev pub sale_marks : List Row → ℕ → Corp → Book → Book
sale_marks rows n = moves_token (cell_after_sale rows n)

-- the mark of a corporation that is sold out as a stock round ends: one row up
abbrev pub sold_out_marks : List Row → Corp → Book → Book
sold_out_marks rows = moves_token (cell_above rows)
