use Rattle.std.proofs.Common.{◌≡◌}
use Rattle.rr_reading.specs.Held.{tables_in}
use Rattle.rr_reading.specs.Lending.Chains.{all_of, count_of}
use Rattle.rr_reading.proofs.FormLemmas.{LeftDecide}
use Rattle.rr_reading.proofs.forms.judge_forms.Given as goal

abbrev pub invariant-loop-index : goal.invariant-loop-index
invariant-loop-index g l =
    record {
      decide : g.D.Disk.Honest l.disk → LeftDecide l.entries (tables_in (g.D.Disk.state l.fn.disk).content l.fn.tables) l.index;
      all : all_of l.tables.chains ≡ all_of l.fn.tables.chains;
      pages : count_of l.tables.chains ≡ count_of l.fn.tables.chains;
      honest : g.D.Disk.Honest l.disk → g.D.Disk.Honest l.fn.disk;
      same_state : g.D.Disk.Honest l.disk → g.D.Disk.state l.disk ≡ g.D.Disk.state l.fn.disk;
      same_past : g.D.Disk.Honest l.disk → g.D.Disk.past l.disk ≡ g.D.Disk.past l.fn.disk;
      faults : g.D.Disk.fault_count l.disk ≡ g.D.Disk.fault_count l.fn.disk;
      writes : g.D.Disk.write_count l.disk ≡ g.D.Disk.write_count l.fn.disk;
      syncs : g.D.Disk.sync_count l.disk ≡ g.D.Disk.sync_count l.fn.disk;
      works : g.D.Disk.Works l.disk → g.D.Disk.Works l.fn.disk;
      same_len : g.D.Disk.file_len l.disk ≡ g.D.Disk.file_len l.fn.disk;
    }
