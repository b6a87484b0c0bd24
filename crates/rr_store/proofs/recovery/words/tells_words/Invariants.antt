use Rattle.std.proofs.Common.{Ok}
use Rattle.rr_reading.specs.Lending.Commands.{bytes_at, rest_of, steps_left_of}
use Rattle.rr_store.specs.Recovery.Reading.{OnlyReads}
use Rattle.rr_store.proofs.RecoveryLemmas.WordLemmas.{SpellsSo}
use Rattle.rr_store.proofs.recovery.words.tells_words.Given as goal

abbrev pub invariant-commands : goal.invariant-commands
invariant-commands g l =
    record {
      spells : g.D.Disk.Honest l.disk → SpellsSo (bytes_at (g.D.Disk.state l.fn.disk).content l.fn.chains l.fn.index) (rest_of (g.D.Disk.state l.fn.disk).content l.chains) l.left l.fn.entry.kept;
      only_reads : OnlyReads {T = Unit {0}} g.D.Disk l.fn.disk l.disk l.fn.chains l.chains (Ok tt);
    }

abbrev pub decreases-commands : goal.decreases-commands
decreases-commands g l = steps_left_of l.chains
