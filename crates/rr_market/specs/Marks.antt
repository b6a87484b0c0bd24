-- What a book says of the corporations' tokens on the chart, and what the chart says of a token's cell.
use Rattle.std.specs.Prelude.{◌≡◌, ◌≢◌, ℕ, ◌+◌, Bool, true, false, is_some, List, Option, None, Some, option_map, option_and_then, unwrap_or, fold, if◌then◌else◌}
use Rattle.rr_roster.specs.declared.company.Corp.{Corp}
use Rattle.rr_roster.specs.Chart.Chart.{Row, cell_at}
use Rattle.rr_roster.specs.declared.chart.cell.Place.{Place}
use Rattle.rr_roster.specs.declared.chart.cell.Zone.{Zone}
use Rattle.rr_books.specs.declared.entries.Cell.{Cell}
use Rattle.rr_books.specs.declared.entries.Entry.{Entry}
use Rattle.rr_books.specs.declared.entries.Entry.TheVariants as E
use Rattle.rr_books.specs.Book.{Book}
use Rattle.rr_books.specs.Same.{same_corp}

-- the entry marks the corporation's token
abbrev pub is_mark_of : Corp → Entry → Bool
is_mark_of c (E.Mark corp cell) = same_corp c corp
is_mark_of c _ = false

-- the cell of a corporation's token after one entry more
abbrev pub cell_after : Corp → Option Cell → Entry → Option Cell
cell_after c cell (E.Mark corp to) = if same_corp c corp then Some to else cell
cell_after c cell _ = cell

-- where a corporation's token is: the cell of its last mark
unfoldable pub mark_of : Book → Corp → Option Cell
mark_of book c = fold (cell_after c) None book

-- where a corporation's token was put first, after one entry more
abbrev pub first_after : Corp → Option Cell → Entry → Option Cell
first_after c first (E.Mark corp to) = if same_corp c corp then Some (unwrap_or first to) else first
first_after c first _ = first

-- where a corporation's token was put first: the cell of its first mark
unfoldable pub first_mark_of : Book → Corp → Option Cell
first_mark_of book c = fold (first_after c) None book

-- how many entries there are, and the number of the last one that marks a corporation's token, from 1; 0 where none does
pub record Arrival : Type 0 where
  pub entries : ℕ
  pub last : ℕ

-- the same after one entry more
abbrev pub arrival_after : Corp → Arrival → Entry → Arrival
arrival_after c a entry = record { entries = a.entries + 1; last = if is_mark_of c entry then a.entries + 1 else a.last }

-- when a corporation's token arrived at its cell: the place in the book of its last mark, counted from 1
unfoldable pub arrival : Book → Corp → ℕ
arrival book c = (fold (arrival_after c) (record { entries = 0; last = 0 }) book).last

-- the place on the chart that the book's cell names
abbrev pub place_of : Cell → Place
place_of cell = record { row = cell.row; column = cell.column }

-- the price and the zone at a cell, if the chart has that cell
abbrev pub price_at : List Row → Option Cell → Option ℕ
price_at rows cell = option_map (λ c. c.price) (option_and_then (λ named. cell_at rows (place_of named)) cell)

abbrev pub zone_at : List Row → Option Cell → Option Zone
zone_at rows cell = option_map (λ c. c.zone) (option_and_then (λ named. cell_at rows (place_of named)) cell)

-- the price of a corporation's shares: that of the cell of its token
abbrev pub price_of : List Row → Book → Corp → Option ℕ
price_of rows book c = price_at rows (mark_of book c)

-- the zone of a corporation's shares: that of the cell of its token
abbrev pub zone_of : List Row → Book → Corp → Option Zone
zone_of rows book c = zone_at rows (mark_of book c)

-- a corporation's par: the price of the cell where its token was put first
abbrev pub par_of : List Row → Book → Corp → Option ℕ
par_of rows book c = price_at rows (first_mark_of book c)

-- the tokens of two corporations never arrive at once
abbrev pub ArrivalsDiffer : Type 0
ArrivalsDiffer = (book : Book) (c d : Corp) → same_corp c d ≡ false → is_some (mark_of book c) ≡ true → is_some (mark_of book d) ≡ true → arrival book c ≢ arrival book d
