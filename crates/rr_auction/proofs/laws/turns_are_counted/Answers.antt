use Rattle.std.specs.Prelude.{ℕ, ◌-◌, Option, is_some, if◌then◌else◌}
use Rattle.std.proofs.Common.{◌∙◌, ap}
use Rattle.rr_books.specs.declared.parties.Seat.{Seat}
use Rattle.rr_rounds.specs.Bids.Progress.{progress}
use Rattle.rr_auction.specs.TurnLaws.{owes_par}
use Rattle.rr_auction.proofs.TurnCounts.{commands_counted, par_owed}
use Rattle.rr_auction.proofs.laws.turns_are_counted.Goals as goal

pub returns : goal.returns
returns c book =
    ap (λ (o : Option Seat). if is_some o then (progress book).commands - 1 else (progress book).commands) (par_owed book)
    ∙ ap (λ (n : ℕ). if is_some (owes_par book) then n - 1 else n) (commands_counted book)
