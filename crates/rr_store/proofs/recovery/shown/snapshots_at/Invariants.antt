use Rattle.std.proofs.Common.{◌≡◌, [], length, take}
use Rattle.std.specs.List.{AllZip}
use Rattle.rr_checkpoint.specs.Plan.Standing.{standing_chains}
use Rattle.rr_store.specs.Recovery.Shown.{SpellsTheGame, shown_at}
use Rattle.rr_store.proofs.recovery.shown.snapshots_at.Given as goal

abbrev pub invariant-loop-entry : goal.invariant-loop-entry
invariant-loop-entry l =
    record {
      none : l.kept.commands ≡ [];
      shown : AllZip SpellsTheGame (shown_at l.index (take (length l.yielded) l.entries) (standing_chains (take (length l.yielded) l.chains))) l.kept.snapshots;
    }
