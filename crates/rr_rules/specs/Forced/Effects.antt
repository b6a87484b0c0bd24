-- What a command of a corporation that must own a train and can't pay it adds to a table's book.
use Rattle.std.specs.Prelude.{ℕ, List, [], ◌∷◌, Option, None, Some}
use Rattle.rr_roster.specs.declared.company.Corp.{Corp}
use Rattle.rr_roster.specs.Terms.{Terms}
use Rattle.rr_roster.specs.Chart.Chart.{Row}
use Rattle.rr_books.specs.declared.parties.Seat.{Seat}
use Rattle.rr_books.specs.declared.parties.Party.TheVariants as P
use Rattle.rr_books.specs.declared.parties.Place.TheVariants as L
use Rattle.rr_books.specs.declared.entries.Entry.TheVariants as E
use Rattle.rr_books.specs.declared.acts.Act.{Act}
use Rattle.rr_books.specs.declared.acts.Act.TheVariants as A
use Rattle.rr_books.specs.Book.{Book}
use Rattle.rr_desk.specs.Effects.{Effect, adds, in_turn}
use Rattle.rr_desk.specs.Incomes.{dollars}
use Rattle.rr_shares.specs.Effects.{sale_shares}
use Rattle.rr_stock.specs.Effects.{pays_seller, proceeds}
use Rattle.rr_stock.specs.Situation as stock
use Rattle.rr_trains.specs.Sales.{source_place}
use Rattle.rr_trains.specs.Effects.{first_train, moves_lowest_train}
use Rattle.rr_trains.specs.Depot.Effects.{pays, says}
use Rattle.rr_trains.specs.Depot.Situation.{situation_of}
use Rattle.rr_rules.specs.declared.forced.needs.Need.{Need}
use Rattle.rr_rules.specs.Forced.Needs.{cheapest_need}

-- the president pays the corporation, if there is one
abbrev pub helps : Option Seat → Corp → ℕ → Effect
helps None c amount = in_turn []
helps (Some s) c amount = adds (E.Pay (P.Seat s) (P.Corp c) (dollars amount))

-- the corporation gets the train, pays the bank for it, and what the train brings about follows
unfoldable pub gets_train : Need → Effect
gets_train need = in_turn (moves_lowest_train need.train.kind (source_place need.train.source) (L.Corp need.corp)
    ∷ pays need.corp P.Bank need.price ∷ first_train need.is_first need.train.kind need.corp ∷ [])

-- the president adds what the corporation lacks, and the train is bought
unfoldable pub forces : Need → Effect
forces need = in_turn (says (A.Force need.corp) ∷ helps need.president need.corp need.lack ∷ gets_train need ∷ [])

abbrev pub forces_if : Option Need → Effect
forces_if None = in_turn []
forces_if (Some need) = forces need

-- a seat sells so many 10% shares as in a stock round: the presidency and the shares, the price before the sale for each,
-- and the fall of the token
unfoldable pub raises : List Row → stock.Situation → Seat → Corp → ℕ → Effect
raises rows t s c n = in_turn (says (A.Raise s c n) ∷ sale_shares c s n ∷ pays_seller rows s c n (proceeds t c n) ∷ [])

-- what a command that isn't refused adds; a bankruptcy adds its words alone
abbrev pub entries_of : Terms → List Row → Book → Act → Book
entries_of roster rows book (A.Force c) = forces_if (cheapest_need roster (situation_of book) c) book
entries_of roster rows book (A.Raise s c n) = raises rows (stock.situation_of rows book) s c n book
entries_of roster rows book (A.Bankrupt s) = says (A.Bankrupt s) book
entries_of roster rows book _ = []
