use Rattle.std.proofs.Common.{Ok}
use Rattle.rr_reading.specs.Held.{tables_in}
use Rattle.rr_store.specs.Recovery.Reading.{OnlyReads}
use Rattle.rr_store.specs.Recovery.Told.{TellsWords}
use Rattle.rr_store.proofs.RecoveryLemmas.TellingLemmas.{LeftDecide}
use Rattle.rr_store.proofs.recovery.words.tell_words.Given as goal

abbrev pub invariant-loop-index : goal.invariant-loop-index
invariant-loop-index g l =
    record {
      decide : g.D.Disk.Honest l.disk → LeftDecide TellsWords l.entries (tables_in (g.D.Disk.state l.fn.disk).content l.fn.chains) l.index;
      only_reads : OnlyReads {T = Unit {0}} g.D.Disk l.fn.disk l.disk l.fn.chains l.chains (Ok tt);
    }
