use Rattle.std.proofs.Common.{◌≡◌, ◌+◌, ◌≤◌, length}
use Rattle.rr_pages.specs.ReachedPages.{marks_of}
use Rattle.rr_pages.specs.Sets.{all_marked}
use Rattle.rr_pages.specs.Links.{pages_of, AreLinks, AreBelow}
use Rattle.rr_pages.proofs.SetLemmas.{unmarked}
use Rattle.rr_pages.proofs.Walks.{LeadsOn, HasBegun}
use Rattle.rr_pages.proofs.reading.walk.Given as goal

abbrev pub invariant-pages : goal.invariant-pages
invariant-pages g l =
    record {
      leads : g.D.Disk.Honest l.disk → LeadsOn (g.D.Disk.state l.fn.disk).content l.fn.count (marks_of l.fn.reached) l.fn.head (pages_of l.links.items) (marks_of l.reached) l.next;
      links : g.D.Disk.Honest l.disk → AreLinks (g.D.Disk.state l.fn.disk).content l.links.items;
      begins : HasBegun l.fn.count (marks_of l.fn.reached) l.fn.head (marks_of l.reached) l.next;
      below : AreBelow l.fn.count l.links.items;
      marks : marks_of l.reached ≡ all_marked (marks_of l.fn.reached) (pages_of l.links.items);
      few : length l.links.items + unmarked (marks_of l.reached) ≤ 65536;
      honest : g.D.Disk.Honest l.disk → g.D.Disk.Honest l.fn.disk;
      same_state : g.D.Disk.Honest l.disk → g.D.Disk.state l.disk ≡ g.D.Disk.state l.fn.disk;
      same_past : g.D.Disk.Honest l.disk → g.D.Disk.past l.disk ≡ g.D.Disk.past l.fn.disk;
      faults : g.D.Disk.fault_count l.disk ≡ g.D.Disk.fault_count l.fn.disk;
      writes : g.D.Disk.write_count l.disk ≡ g.D.Disk.write_count l.fn.disk;
      syncs : g.D.Disk.sync_count l.disk ≡ g.D.Disk.sync_count l.fn.disk;
      works : g.D.Disk.Works l.disk → g.D.Disk.Works l.fn.disk;
      same_len : g.D.Disk.file_len l.disk ≡ g.D.Disk.file_len l.fn.disk;
    }

abbrev pub decreases-pages : goal.decreases-pages
decreases-pages g l = unmarked (marks_of l.reached)
