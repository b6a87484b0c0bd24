use Rattle.std.proofs.Common.{◌≡◌, take}
use Rattle.rr_pages.specs.Links.{pages_of, Gathers}
use Rattle.rr_pages.proofs.reading.read_pieces.Given as goal

abbrev pub invariant-loop-link : goal.invariant-loop-link
invariant-loop-link g l =
    record {
      gathers : g.D.Disk.Honest l.disk → Gathers (g.D.Disk.state l.fn.disk).content (take l.link-index l.links) l.bytes.items;
      pages : l.pages.items ≡ pages_of (take l.link-index l.links);
      honest : g.D.Disk.Honest l.disk → g.D.Disk.Honest l.fn.disk;
      same_state : g.D.Disk.Honest l.disk → g.D.Disk.state l.disk ≡ g.D.Disk.state l.fn.disk;
      same_past : g.D.Disk.Honest l.disk → g.D.Disk.past l.disk ≡ g.D.Disk.past l.fn.disk;
      faults : g.D.Disk.fault_count l.disk ≡ g.D.Disk.fault_count l.fn.disk;
      writes : g.D.Disk.write_count l.disk ≡ g.D.Disk.write_count l.fn.disk;
      syncs : g.D.Disk.sync_count l.disk ≡ g.D.Disk.sync_count l.fn.disk;
      works : g.D.Disk.Works l.disk → g.D.Disk.Works l.fn.disk;
      same_len : g.D.Disk.file_len l.disk ≡ g.D.Disk.file_len l.fn.disk;
    }
