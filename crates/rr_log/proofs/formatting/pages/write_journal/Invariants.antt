use Rattle.std.proofs.Common.{◌≡◌, ◌-◌, ◌≤◌, take}
use Rattle.rr_disk.specs.Calls.{account, after_steps}
use Rattle.rr_disk.specs.Disk.{counted_by}
use Rattle.rr_log.specs.Formatting.Calls.{zeros_from}
use Rattle.rr_log.proofs.formatting.pages.write_journal.Given as goal

abbrev pub invariant-loop-page : goal.invariant-loop-page
invariant-loop-page g l =
    record {
      low : 2 ≤ l.page;
      high : l.page ≤ 514;
      honest : g.D.Disk.Honest l.disk → g.D.Disk.Honest l.fn.disk;
      made : g.D.Disk.Honest l.disk → account g.D.Disk l.disk ≡ after_steps (account g.D.Disk l.fn.disk) (take (l.page - 2) (zeros_from 2 512));
      faults : g.D.Disk.fault_count l.disk ≡ g.D.Disk.fault_count l.fn.disk;
      writes : g.D.Disk.write_count l.disk ≡ counted_by (l.page - 2) (g.D.Disk.write_count l.fn.disk);
      syncs : g.D.Disk.sync_count l.disk ≡ g.D.Disk.sync_count l.fn.disk;
      works : g.D.Disk.Works l.disk → g.D.Disk.Works l.fn.disk;
    }
