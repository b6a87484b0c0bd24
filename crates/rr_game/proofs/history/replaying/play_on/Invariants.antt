use Rattle.std.proofs.Common.{◌≡◌, ◌+◌, take}
use Rattle.rr_game.specs.Keeping.{IsGameOf}
use Rattle.rr_game.proofs.history.replaying.play_on.Given as goal

abbrev pub invariant-loop-place : goal.invariant-loop-place
invariant-loop-place l = record {
  count : l.next.played ≡ l.place;
  plays : l.fn.game.played + l.plays ≡ l.place;
  stands : IsGameOf l.kit (take l.fn.game.played l.kept.commands) l.fn.game → IsGameOf l.kit (take l.place l.kept.commands) l.next;
}
