use Rattle.std.proofs.Common.{All, length, take}
use Rattle.rr_checkpoint.specs.Plan.Standing.{standing_chains}
use Rattle.rr_store.specs.Recovery.Shown.{SpellsItsGame, shown_in}
use Rattle.rr_store.proofs.recovery.shown.tell_each.Given as goal

abbrev pub invariant-loop-entry : goal.invariant-loop-entry
invariant-loop-entry l = All SpellsItsGame (shown_in (take (length l.yielded) l.entries) (standing_chains (take (length l.yielded) l.chains)))
