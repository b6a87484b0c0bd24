-- What a corporation's purchase adds to a table's book.
use Rattle.std.specs.Prelude.{ℕ, Bool, false, not, [], ◌∷◌, Option, None, Some}
use Rattle.rr_roster.specs.declared.company.Private.{Private}
use Rattle.rr_roster.specs.declared.company.Corp.{Corp}
use Rattle.rr_roster.specs.declared.company.Kind.{Kind}
use Rattle.rr_roster.specs.declared.company.Kind.TheVariants as K
use Rattle.rr_roster.specs.Terms.{Terms, price_of, trade_of}
use Rattle.rr_books.specs.declared.parties.Seat.{Seat}
use Rattle.rr_books.specs.declared.parties.Party.{Party}
use Rattle.rr_books.specs.declared.parties.Party.TheVariants as P
use Rattle.rr_books.specs.declared.parties.Place.TheVariants as L
use Rattle.rr_books.specs.declared.certificates.Cert.TheVariants as C
use Rattle.rr_books.specs.declared.entries.Entry.TheVariants as E
use Rattle.rr_books.specs.declared.entries.Marker.TheVariants as M
use Rattle.rr_books.specs.declared.acts.Act.{Act}
use Rattle.rr_books.specs.declared.acts.Act.TheVariants as A
use Rattle.rr_roster.specs.declared.sources.TrainSource.{TrainSource}
use Rattle.rr_roster.specs.declared.sources.TrainSource.TheVariants as S
use Rattle.rr_books.specs.Book.{Book}
use Rattle.rr_desk.specs.Effects.{Effect, adds, in_turn}
use Rattle.rr_desk.specs.Incomes.{dollars}
use Rattle.rr_market.specs.Operations.Phases.{TrainHolders, is_sold}
use Rattle.rr_trains.specs.Sales.{source_place}
use Rattle.rr_trains.specs.Effects.{first_train, moves_lowest_train}
use Rattle.rr_trains.specs.declared.depot.purchases.Deal.{Deal}
use Rattle.rr_trains.specs.declared.depot.purchases.Purchase.{Purchase}
use Rattle.rr_trains.specs.Depot.Rules.{deal, owner}
use Rattle.rr_trains.specs.Depot.Situation.{Situation, situation_of}

-- the command is taken down
abbrev pub says : Act → Effect
says act = adds (E.Step (M.Act act))

abbrev pub pays : Corp → Party → ℕ → Effect
pays c to amount = adds (E.Pay (P.Corp c) to (dollars amount))

-- a train of the kind bought there is the first that leaves the bank
abbrev pub is_first_sold : TrainHolders → Kind → TrainSource → Bool
is_first_sold trains kind S.Bank = not (is_sold trains kind)
is_first_sold trains kind S.Pool = false

-- a train of the bank or the pool, for so much
abbrev pub of_bank : TrainHolders → Corp → Kind → TrainSource → ℕ → Purchase
of_bank trains c kind source amount =
    record { corp = c; kind = kind; from = source_place source; is_first = is_first_sold trains kind source; payee = P.Bank; amount = amount }

-- another corporation's train, which left the bank before
abbrev pub of_corporation : Deal → Purchase
of_corporation d = record { corp = d.corp; kind = d.kind; from = L.Corp d.seller; is_first = false; payee = P.Corp d.seller; amount = d.price }

-- a corporation gets the lowest train of a kind that is at a place, pays for it, and what the train brings about follows
unfoldable pub gets_train : Purchase → Effect
gets_train p = in_turn (moves_lowest_train p.kind p.from (L.Corp p.corp) ∷ pays p.corp p.payee p.amount ∷ first_train p.is_first p.kind p.corp ∷ [])

-- a corporation buys a train from the bank or the pool
unfoldable pub buys_train : Terms → Situation → Corp → Kind → TrainSource → Effect
buys_train roster t c kind source = in_turn (says (A.BuyTrain c kind source) ∷ gets_train (of_bank t.trains c kind source (price_of roster kind)) ∷ [])

-- a corporation buys another's train
unfoldable pub buys_train_from : Deal → Effect
buys_train_from d = in_turn (says (A.BuyTrainFrom d.corp d.kind d.seller d.price d.president d.seller_president) ∷ gets_train (of_corporation d) ∷ [])

-- a corporation hands in a train, which leaves the game, and gets a D of the bank
unfoldable pub trades_train : Terms → Situation → Corp → Kind → Effect
trades_train roster t c kind =
    in_turn (says (A.Trade c kind) ∷ moves_lowest_train kind (L.Corp c) L.Gone ∷ gets_train (of_bank t.trains c K.Diesel S.Bank (trade_of roster)) ∷ [])

-- a corporation gives up a train, unpaid, which the pool sells from then on
unfoldable pub discards_train : Corp → Kind → Effect
discards_train c kind = in_turn (says (A.Discard c kind) ∷ moves_lowest_train kind (L.Corp c) L.Pool ∷ [])

abbrev pub pays_player : Corp → Option Seat → ℕ → Effect
pays_player c None amount = in_turn []
pays_player c (Some s) amount = pays c (P.Seat s) amount

-- a corporation buys a private from the player that has it
unfoldable pub takes_private : Situation → Corp → Private → ℕ → Effect
takes_private t c p price = in_turn (says (A.TakePrivate c p price) ∷ adds (E.Move (C.Private p) (L.Corp c)) ∷ pays_player c (owner t p) price ∷ [])

-- what a command that isn't refused adds
abbrev pub row : Terms → Situation → Act → Effect
row roster t (A.BuyTrain c kind source) = buys_train roster t c kind source
row roster t (A.BuyTrainFrom c kind seller price s s2) = buys_train_from (deal c kind seller price s s2)
row roster t (A.Trade c kind) = trades_train roster t c kind
row roster t (A.Discard c kind) = discards_train c kind
row roster t (A.TakePrivate c p price) = takes_private t c p price
row roster t _ = in_turn []

abbrev pub entries_of : Terms → Book → Act → Book
entries_of roster book act = row roster (situation_of book) act book
