use Rattle.std.proofs.Common.{◌≡◌, map, take}
use Rattle.rr_reading.specs.Chains.{all_held_in, held}
use Rattle.rr_reading.proofs.texts.read_snapshots.Given as goal

abbrev pub invariant-loop-chain : goal.invariant-loop-chain
invariant-loop-chain g l =
    record {
      read : g.D.Disk.Honest l.disk → map held l.read.items ≡ all_held_in (g.D.Disk.state l.fn.disk).content (take l.chain-index l.chains);
      honest : g.D.Disk.Honest l.disk → g.D.Disk.Honest l.fn.disk;
      same_state : g.D.Disk.Honest l.disk → g.D.Disk.state l.disk ≡ g.D.Disk.state l.fn.disk;
      same_past : g.D.Disk.Honest l.disk → g.D.Disk.past l.disk ≡ g.D.Disk.past l.fn.disk;
      faults : g.D.Disk.fault_count l.disk ≡ g.D.Disk.fault_count l.fn.disk;
      writes : g.D.Disk.write_count l.disk ≡ g.D.Disk.write_count l.fn.disk;
      syncs : g.D.Disk.sync_count l.disk ≡ g.D.Disk.sync_count l.fn.disk;
      works : g.D.Disk.Works l.disk → g.D.Disk.Works l.fn.disk;
      same_len : g.D.Disk.file_len l.disk ≡ g.D.Disk.file_len l.fn.disk;
    }
