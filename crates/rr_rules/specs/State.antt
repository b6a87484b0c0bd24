-- What the rules of a table look at.
use Rattle.std.specs.Prelude.{◌≡◌}
use Rattle.rr_books.specs.declared.parties.Money.{Money}
use Rattle.rr_books.specs.Book.{Book}
use Rattle.rr_desk.specs.Position.Position.{OnTable, IsPositionOf}

-- a table's book, and what the trains of the corporation that is due earned in its turn, which is nothing before they ran
pub record GameState : Type 0 where
  pub book : Book
  pub revenue : Money

-- the views of the book, and the revenue
pub record AtTable : Type 0 where
  pub position : OnTable
  pub revenue : Money

-- they stand for the state
pub record IsStandingOf (state : GameState) (standing : AtTable) : Type 0 where
  pub position : IsPositionOf state.book standing.position
  pub revenue : standing.revenue ≡ state.revenue
