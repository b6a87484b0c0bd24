-- A forced purchase, worked.
use Rattle.std.specs.Prelude.{◌≡◌, ℕ, pos, [], ◌∷◌, ◌++◌, None, Some}
use Rattle.rr_roster.specs.declared.company.Corp.{Corp}
use Rattle.rr_roster.specs.declared.company.Kind.TheVariants as K
use Rattle.rr_books.specs.declared.parties.Seat.{Seat}
use Rattle.rr_books.specs.declared.parties.Party.TheVariants as P
use Rattle.rr_books.specs.declared.parties.Place.TheVariants as L
use Rattle.rr_books.specs.declared.certificates.Cert.TheVariants as C
use Rattle.rr_books.specs.declared.entries.Entry.TheVariants as E
use Rattle.rr_books.specs.declared.entries.Marker.TheVariants as M
use Rattle.rr_books.specs.declared.acts.Act.{Act}
use Rattle.rr_books.specs.declared.acts.Act.TheVariants as A
use Rattle.rr_books.specs.Book.{Book, balance}
use Rattle.rr_books.specs.Opening.{opening_trains}
use Rattle.rr_desk.specs.Incomes.{dollars}
use Rattle.rr_market.specs.Operations.Phases.{train}
use Rattle.rr_trains.specs.WorkedTrains.{usual_terms}
use Rattle.rr_trains.specs.Depot.Situation.{situation_of}
use Rattle.rr_books.specs.declared.refusal.Refusal.TheVariants as F
use Rattle.rr_rules.specs.Forced.Needs.{cheapest_need}
use Rattle.rr_rules.specs.Forced.Rules.{force_verdict}
use Rattle.rr_rules.specs.Forced.Effects.{entries_of}

abbrev pub seat : ℕ → Seat
seat n = record { 0 = n }

-- two players; the PRR has 50 and no train, the first player is its president, and no train is sold
abbrev pub with_leader_of : ℕ → Book
with_leader_of amount =
    opening_trains usual_terms
    ++ E.Step (M.Auction ((97 ∷ []) ∷ (98 ∷ []) ∷ []))
    ∷ E.Move (C.President Corp.Prr) (L.Seat (seat 0))
    ∷ E.Pay P.Bank (P.Corp Corp.Prr) (dollars 50)
    ∷ E.Pay P.Bank (P.Seat (seat 0)) (dollars amount)
    ∷ []

abbrev pub force : Act
force = A.Force Corp.Prr

-- the president adds 30, keeps 10, and the corporation has nothing left
pub record WorkedForce : Type 0 where
  pub lawful : force_verdict (Some Corp.Prr) (cheapest_need usual_terms (situation_of (with_leader_of 40)) Corp.Prr) ≡ None
  pub entries : entries_of usual_terms [] (with_leader_of 40) force
      ≡ E.Step (M.Act force)
      ∷ E.Pay (P.Seat (seat 0)) (P.Corp Corp.Prr) (dollars 30)
      ∷ E.Train (train K.Two 1) (L.Corp Corp.Prr)
      ∷ E.Pay (P.Corp Corp.Prr) P.Bank (dollars 80)
      ∷ []
  pub left : balance (with_leader_of 40 ++ entries_of usual_terms [] (with_leader_of 40) force) (P.Seat (seat 0)) ≡ pos 10
  pub spent : balance (with_leader_of 40 ++ entries_of usual_terms [] (with_leader_of 40) force) (P.Corp Corp.Prr) ≡ pos 0
  pub too_little : force_verdict (Some Corp.Prr) (cheapest_need usual_terms (situation_of (with_leader_of 25)) Corp.Prr) ≡ Some F.TooLittleCash
  pub not_due : force_verdict (Some Corp.Nyc) (cheapest_need usual_terms (situation_of (with_leader_of 40)) Corp.Prr) ≡ Some F.NotYourTurn
  pub alone : force_verdict (Some Corp.Prr) (cheapest_need usual_terms (situation_of (with_leader_of 40 ++ E.Pay P.Bank (P.Corp Corp.Prr) (dollars 30) ∷ [])) Corp.Prr) ≡ Some F.WrongStep
