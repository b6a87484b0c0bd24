use Rattle.std.proofs.Common.{take}
use Rattle.std.specs.Option.{option_copied}
use Rattle.rr_store.specs.Recovery.Shown.{IsLast}
use Rattle.rr_store.proofs.recovery.shown.last_of.Given as goal

abbrev pub invariant-loop-snapshot : goal.invariant-loop-snapshot
invariant-loop-snapshot l = IsLast (take l.snapshot-index l.snapshots) (option_copied l.last)
