-- What the rules on a corporation's trains and privates look at.
use Rattle.std.specs.Prelude.{ℕ, ℤ}
use Rattle.rr_books.specs.declared.parties.Party.{Party}
use Rattle.rr_books.specs.Book.{Book, balance, holder, players, train_holder}
use Rattle.rr_books.specs.Shares.{Holders}
use Rattle.rr_books.specs.State.{State, cash_of, holder_in, train_place_of}
use Rattle.rr_market.specs.Operations.Phases.{TrainHolders}

-- the number of players, the money of each party, and where each certificate and each train is
pub record Situation : Type 0 where
  pub players : ℕ
  pub money : Party → ℤ
  pub holders : Holders
  pub trains : TrainHolders

-- the situation by a table's book
abbrev pub situation_of : Book → Situation
situation_of book = record { players = players book; money = balance book; holders = holder book; trains = train_holder book }

-- the situation by the tables that run along with the book
abbrev pub situation_in : State → Situation
situation_in s = record { players = s.players; money = cash_of s; holders = holder_in s; trains = train_place_of s }
