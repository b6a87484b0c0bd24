use Rattle.std.proofs.Common.{◌≡◌, ◌+◌, ◌≤◌, All, List, [], length, Ok}
use Rattle.rr_code.specs.declared.command.Command.{Command}
use Rattle.rr_game.specs.History.Tables.{HasItsSnapshots, IsPlayed, kept_in}
use Rattle.rr_reading.specs.Lending.Commands.{bytes_at, rest_of, steps_left_of}
use Rattle.rr_store.specs.Recovery.Kept.{AreWorded}
use Rattle.rr_store.specs.Recovery.Playing.{IsFrontOf}
use Rattle.rr_store.specs.Recovery.Reading.{OnlyReads}
use Rattle.rr_store.specs.Recovery.Shown.{ShowsPlayOf, shown_of}
use Rattle.rr_store.specs.Replayed.{begins_behind, counts_played, counts_shown, plays_behind, with_due}
use Rattle.rr_store.proofs.RecoveryLemmas.PlayingLemmas.{IsPlaying}
use Rattle.rr_store.proofs.recovery.playing.play_all.Given as goal

abbrev pub invariant-commands : goal.invariant-commands
invariant-commands g l =
    record {
      so_far : g.D.Disk.Honest l.disk → IsPlaying (bytes_at (g.D.Disk.state l.fn.disk).content l.fn.chains l.fn.index) (rest_of (g.D.Disk.state l.fn.disk).content l.chains) l.left l.fn.count l.table;
      played : (commands : List Command) → IsFrontOf (kept_in l.table).commands commands → All (ShowsPlayOf l.kit commands) (shown_of l.fn.index l.fn.snapshots) → IsPlayed l.kit l.table;
      named : shown_of l.fn.index l.fn.snapshots ≡ [] → HasItsSnapshots l.table;
      low : begins_behind (counts_shown (shown_of l.fn.index l.fn.snapshots)) ≤ length (kept_in l.table).commands;
      counted : length (kept_in l.table).commands + l.left ≡ l.fn.count;
      plays : l.plays + l.left ≡ plays_behind l.fn.count (counts_shown (shown_of l.fn.index l.fn.snapshots));
      shown : counts_played l.table.kept.snapshots ≡ with_due (counts_shown (shown_of l.fn.index l.fn.snapshots)) (length (kept_in l.table).commands);
      floor : (kept_in l.table).floor ≡ 0;
      worded : AreWorded (kept_in l.table).commands;
      only_reads : OnlyReads {T = Unit {0}} g.D.Disk l.fn.disk l.disk l.fn.chains l.chains (Ok tt);
    }

abbrev pub decreases-commands : goal.decreases-commands
decreases-commands g l = steps_left_of l.chains
