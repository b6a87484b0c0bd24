use Rattle.std.proofs.Common.{take}
use Rattle.std.specs.Option.{option_copied}
use Rattle.rr_game.specs.History.Snapshots.{IsNearest}
use Rattle.rr_game.proofs.history.snapshots.nearest.Given as goal

abbrev pub invariant-loop-snapshot : goal.invariant-loop-snapshot
invariant-loop-snapshot l = IsNearest l.count (take l.snapshot-index l.snapshots) (option_copied l.nearest)
