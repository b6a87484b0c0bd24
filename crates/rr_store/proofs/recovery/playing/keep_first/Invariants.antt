use Rattle.std.proofs.Common.{◌≡◌, length, Ok}
use Rattle.rr_reading.specs.Lending.Commands.{rest_of}
use Rattle.rr_store.specs.Recovery.Kept.{AreWorded}
use Rattle.rr_store.specs.Recovery.Playing.{KeepsFront}
use Rattle.rr_store.specs.Recovery.Reading.{OnlyReads}
use Rattle.rr_store.proofs.recovery.playing.keep_first.Given as goal

abbrev pub invariant-loop-done : goal.invariant-loop-done
invariant-loop-done g l =
    record {
      front : g.D.Disk.Honest l.disk → KeepsFront (rest_of (g.D.Disk.state l.fn.disk).content l.fn.chains) l.kept.commands (rest_of (g.D.Disk.state l.fn.disk).content l.chains);
      counted : length l.kept.commands ≡ l._done;
      worded : AreWorded l.kept.commands;
      snapshots : l.kept.snapshots ≡ l.fn.kept.snapshots;
      only_reads : OnlyReads {T = Unit {0}} g.D.Disk l.fn.disk l.disk l.fn.chains l.chains (Ok tt);
    }
