use Rattle.std.proofs.Common.{◌≡◌, ◌≤◌, length, map, take}
use Rattle.rr_game.specs.declared.game.Game.{Game}
use Rattle.rr_game.specs.History.Snapshots.{named_counts}
use Rattle.rr_game.proofs.history.snapshots.are_named.Given as goal

abbrev pub invariant-loop-place : goal.invariant-loop-place
invariant-loop-place l = record {
  within : l.next ≤ length l.snapshots;
  counts : map (λ (game : Game). game.played) (take l.next l.snapshots) ≡ named_counts l.least l.place;
}
