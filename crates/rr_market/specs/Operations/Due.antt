-- Which corporation is due, and what it is for a view of the operating rounds to stand for a book.
use Rattle.std.specs.Prelude.{◌≡◌, Bool, true, false, not, ◌&&◌, List, [], ◌∷◌, Option, None, find, if◌then◌else◌}
use Rattle.std.specs.List.{list_any}
use Rattle.rr_roster.specs.declared.company.Corp.{Corp}
use Rattle.rr_roster.specs.Chart.Chart.{Row}
use Rattle.rr_books.specs.declared.entries.Entry.{Entry}
use Rattle.rr_books.specs.declared.entries.Entry.TheVariants as E
use Rattle.rr_books.specs.declared.entries.Marker.TheVariants as M
use Rattle.rr_books.specs.declared.acts.Act.TheVariants as A
use Rattle.rr_books.specs.Book.{Book}
use Rattle.rr_market.specs.Order.{operating_order, order_by}
use Rattle.rr_market.specs.State.{State as Tokens, IsMarketOf, arrival_in, cell_in}
use Rattle.rr_rounds.specs.Round.{Marks, Round, is_marked}
use Rattle.rr_rounds.specs.Round as stock
use Rattle.rr_market.specs.Operations.Progress.{Progress, is_operating, progress}

-- the entry begins a turn: another one has ended, or an operating round begins
abbrev pub begins_turn : Entry → Bool
begins_turn (E.Step (M.Act (A.End c))) = true
begins_turn (E.Step M.Operating) = true
begins_turn _ = false

-- the book as the turn began: up to the last entry that begins one
unfoldable pub as_turn_began : Book → Book
as_turn_began [] = []
as_turn_began (e ∷ es) = if list_any begins_turn (e ∷ es) then e ∷ as_turn_began es else []

-- the corporation has floated, and had no turn in the last operating round
abbrev pub is_waiting : Marks → Marks → Corp → Bool
is_waiting floated turns c = is_marked floated c && not (is_marked turns c)

-- the first corporation of an order that has floated and had no turn
abbrev pub first_waiting : Marks → Marks → List Corp → Option Corp
first_waiting floated turns order = find (is_waiting floated turns) order

-- the corporation due in an operating round: the first that had floated and had no turn, in the operating order, both as
-- the turn began
unfoldable pub due : List Row → Book → Option Corp
due rows book =
    let began = as_turn_began book in
    if is_operating (progress book).stage
    then first_waiting (stock.progress began).floated (progress book).turns (operating_order rows began)
    else None

-- how far the operating rounds have come, and the tokens on the chart and the stock rounds as the turn began
pub record OnRounds : Type 0 where
  pub progress : Progress
  pub market : Tokens
  pub stock : Round

-- the same by the view
abbrev pub due_in : List Row → OnRounds → Option Corp
due_in rows o =
    if is_operating o.progress.stage
    then first_waiting o.stock.floated o.progress.turns (order_by rows (cell_in o.market) (arrival_in o.market))
    else None

-- the operating rounds of the book have come so far
pub record IsOperationsOf (book : Book) (o : OnRounds) : Type 0 where
  pub progress : progress book ≡ o.progress
  pub market : IsMarketOf (as_turn_began book) o.market
  pub floated : (stock.progress (as_turn_began book)).floated ≡ o.stock.floated
