-- The phase as the greatest kind of which a train was ever sold.
use Rattle.std.specs.Prelude.{◌≡◌, ◌≢◌, ◌⊎◌, ℕ, ◌≤◌, List, ◌∷◌, ◌++◌, Some}
use Rattle.rr_roster.specs.declared.company.Kind.{Kind}
use Rattle.rr_roster.specs.declared.company.Kind.TheVariants as K
use Rattle.rr_roster.specs.Company.{kind_index}
use Rattle.rr_books.specs.declared.parties.Place.{Place}
use Rattle.rr_books.specs.declared.parties.Place.TheVariants as L
use Rattle.rr_books.specs.declared.certificates.Train.{Train}
use Rattle.rr_books.specs.declared.entries.Entry.TheVariants as E
use Rattle.rr_books.specs.Book.{Book, train_holder}
use Rattle.rr_market.specs.Operations.Phases.{phase, train}
use Rattle.rr_code.specs.declared.command.Command.{Command}
use Rattle.rr_kit.specs.declared.kit.Kit.{Kit}
use Rattle.rr_game.specs.Play.{play}

-- an entry of the book took the train out of the offering
pub record WasTaken (book : Book) (t : Train) : Type 0 where
  pub before : Book
  pub to : Place
  pub after : Book
  pub entry : book ≡ before ++ E.Train t to ∷ after
  pub offered : train_holder before t ≡ Some L.Offer
  pub gone : to ≢ L.Offer

-- a train of the kind was sold
abbrev pub WasSold : Book → Kind → Type 0
WasSold book kind = (number : ℕ) × WasTaken book (train kind number)

-- of no greater kind a train was sold, and of this one a train was, unless it is the 2 and none was sold at all
pub record IsGreatestSold (book : Book) (kind : Kind) : Type 0 where
  pub greatest : (other : Kind) → WasSold book other → kind_index other ≤ kind_index kind
  pub sold : WasSold book kind ⊎ ((kind ≡ K.Two) × ((other : Kind) → ¬ WasSold book other))

-- whatever commands a table is played with, the phase, which goes by where the trains are, is the greatest kind sold
abbrev pub PhasesAreGreatestSold : Type 0
PhasesAreGreatestSold = (kit : Kit) (commands : List Command) → let book = (play kit commands).book in IsGreatestSold book (phase (train_holder book))
