use Rattle.std.proofs.Common.{◌≡◌, ◌++◌, take}
use Rattle.rr_entries.specs.Words.{joined}
use Rattle.rr_game.specs.Keeping.{IsGameOf}
use Rattle.rr_game.specs.Play.{play}
use Rattle.rr_game.proofs.history.turn_entries.entries_up_to.Given as goal

abbrev pub invariant-loop-place : goal.invariant-loop-place
invariant-loop-place l = record {
  count : l.next.played ≡ l.place;
  stands : IsGameOf l.kit (take l.fn.game.played l.kept.commands) l.fn.game → IsGameOf l.kit (take l.place l.kept.commands) l.next;
  entries : IsGameOf l.kit (take l.fn.game.played l.kept.commands) l.fn.game
      → (play l.kit (take l.fn.game.played l.kept.commands)).book ++ joined l.all.items ≡ (play l.kit (take l.place l.kept.commands)).book;
}
