-- The plain values of an auction, and which values it may have.
use Rattle.std.specs.Prelude.{ℕ, ◌≤◌, List, Option, All}
use Rattle.std.proofs.Common.{refl}
use Rattle.rr_words.specs.Spelling.Form.{Form, number_form, option_form, pair_form, row_form, form_by}
use Rattle.rr_books.specs.Bytes.{seat_form}
use Rattle.rr_books.specs.declared.parties.Seat.{Seat}
use Rattle.rr_rounds.specs.declared.bids.parts.BiddingParts.{BiddingParts}
use Rattle.rr_rounds.specs.Bids.Progress.{AreSmall, Progress}

abbrev pub parts_of : Progress → BiddingParts
parts_of a = record { turn = a.turn; passes = a.passes; falls = a.falls; bids = a.bids; par_due = a.par_due; priority = a.priority; commands = a.commands }

abbrev pub bidding_of : BiddingParts → Progress
bidding_of p = record { turn = p.turn; passes = p.passes; falls = p.falls; bids = p.bids; par_due = p.par_due; priority = p.priority; commands = p.commands }

-- the same values, one behind the other
abbrev pub Row : Type 0
Row = Seat × (ℕ × (ℕ × (List (List ℕ) × (Option Seat × (Seat × ℕ)))))

abbrev pub row_of : BiddingParts → Row
row_of p = (p.turn, (p.passes, (p.falls, (p.bids, (p.par_due, (p.priority, p.commands))))))

abbrev pub parts_in : Row → BiddingParts
parts_in r = record { turn = r.0; passes = r.1.0; falls = r.1.1.0; bids = r.1.1.1.0; par_due = r.1.1.1.1.0; priority = r.1.1.1.1.1.0; commands = r.1.1.1.1.1.1 }

-- their bytes
abbrev pub bidding_form : Form BiddingParts
bidding_form = form_by (pair_form seat_form (pair_form (number_form 4) (pair_form (number_form 4) (pair_form (row_form 6 (row_form 6 (number_form 8))) (pair_form (option_form seat_form) (pair_form seat_form (number_form 4))))))) row_of parts_in (λ p. refl)

-- each number is within its bounds
pub record AreInBounds (p : BiddingParts) : Type 0 where
  pub passes : p.passes ≤ p.commands
  pub falls : p.falls ≤ p.commands
  pub commands : p.commands ≤ 400000000
  pub bids : All (λ row. All (λ bid. bid ≤ 10000000000) row) p.bids

-- an auction may have these values
abbrev pub IsBidding : BiddingParts → Type 0
IsBidding p = (p.passes ≤ p.commands) × (p.falls ≤ p.commands) × (p.commands ≤ 400000000) × AreSmall p.bids
