use Rattle.std.proofs.Common.{◌≡◌, true, length, take, map, None}
use Rattle.rr_reading.specs.Dir.Heads.{head_of}
use Rattle.rr_pages.specs.ReachedPages.{marks_of}
use Rattle.rr_reading.specs.Chains.{all_held_in, AreRead}
use Rattle.rr_reading.specs.Lending.Fitting.{each_fits}
use Rattle.rr_reading.proofs.chains.follow_chains.Given as goal

abbrev pub invariant-loop-chain : goal.invariant-loop-chain
invariant-loop-chain g l =
    record {
      read : g.D.Disk.Honest l.disk → AreRead (g.D.Disk.state l.fn.disk).content l.fn.count (marks_of l.fn.reached) (map head_of (take l.chain-index l.chains)) (marks_of l.reached) l.following.least (all_held_in (g.D.Disk.state l.fn.disk).content l.following.whole.items);
      each : l.following.least ≡ None → length l.following.whole.items ≡ l.chain-index;
      fit : each_fits l.fn.count l.following.whole.items ≡ true;
      honest : g.D.Disk.Honest l.disk → g.D.Disk.Honest l.fn.disk;
      same_state : g.D.Disk.Honest l.disk → g.D.Disk.state l.disk ≡ g.D.Disk.state l.fn.disk;
      same_past : g.D.Disk.Honest l.disk → g.D.Disk.past l.disk ≡ g.D.Disk.past l.fn.disk;
      faults : g.D.Disk.fault_count l.disk ≡ g.D.Disk.fault_count l.fn.disk;
      writes : g.D.Disk.write_count l.disk ≡ g.D.Disk.write_count l.fn.disk;
      syncs : g.D.Disk.sync_count l.disk ≡ g.D.Disk.sync_count l.fn.disk;
      works : g.D.Disk.Works l.disk → g.D.Disk.Works l.fn.disk;
      same_len : g.D.Disk.file_len l.disk ≡ g.D.Disk.file_len l.fn.disk;
    }
