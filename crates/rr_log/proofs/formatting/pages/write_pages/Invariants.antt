use Rattle.std.proofs.Common.{◌≡◌, ◌≤◌, length, map, take}
use Rattle.rr_disk.specs.Calls.{account, after_steps}
use Rattle.rr_disk.specs.Disk.{counted_by}
use Rattle.rr_log.specs.Formatting.Calls.{page_call}
use Rattle.rr_log.proofs.formatting.pages.write_pages.Given as goal

abbrev pub invariant-loop-page : goal.invariant-loop-page
invariant-loop-page g l =
    record {
      few : l.page-index ≤ length l.fresh;
      honest : g.D.Disk.Honest l.disk → g.D.Disk.Honest l.fn.disk;
      made : g.D.Disk.Honest l.disk → account g.D.Disk l.disk ≡ after_steps (account g.D.Disk l.fn.disk) (take l.page-index (map page_call l.fresh));
      faults : g.D.Disk.fault_count l.disk ≡ g.D.Disk.fault_count l.fn.disk;
      writes : g.D.Disk.write_count l.disk ≡ counted_by l.page-index (g.D.Disk.write_count l.fn.disk);
      syncs : g.D.Disk.sync_count l.disk ≡ g.D.Disk.sync_count l.fn.disk;
      works : g.D.Disk.Works l.disk → g.D.Disk.Works l.fn.disk;
    }
