use Rattle.std.proofs.Common.{◌≡◌, ◌+◌, ◌-◌, ◌++◌, ◌≤◌, take}
use Rattle.rr_reading.specs.Lending.Chains.{all_of, count_of}
use Rattle.rr_reading.specs.Lending.Commands.{rest_of, bytes_of, steps_left_of}
use Rattle.rr_reading.proofs.lending.commands.Commands.gather.Given as goal

abbrev pub invariant-bytes : goal.invariant-bytes
invariant-bytes g l =
    record {
      rest : g.D.Disk.Honest l.disk → rest_of (g.D.Disk.state l.fn.disk).content l.fn.self ≡ take l.done (bytes_of l.self.joined) ++ rest_of (g.D.Disk.state l.fn.disk).content l.self;
      within : l.done ≤ l.count;
      few : l.count ≤ 65535;
      fewer : steps_left_of l.self + l.done ≤ steps_left_of l.fn.self;
      pages : count_of l.self.chains ≡ count_of l.fn.self.chains;
      all : all_of l.self.chains ≡ all_of l.fn.self.chains;
      honest : g.D.Disk.Honest l.disk → g.D.Disk.Honest l.fn.disk;
      same_state : g.D.Disk.Honest l.disk → g.D.Disk.state l.disk ≡ g.D.Disk.state l.fn.disk;
      same_past : g.D.Disk.Honest l.disk → g.D.Disk.past l.disk ≡ g.D.Disk.past l.fn.disk;
      faults : g.D.Disk.fault_count l.disk ≡ g.D.Disk.fault_count l.fn.disk;
      writes : g.D.Disk.write_count l.disk ≡ g.D.Disk.write_count l.fn.disk;
      syncs : g.D.Disk.sync_count l.disk ≡ g.D.Disk.sync_count l.fn.disk;
      works : g.D.Disk.Works l.disk → g.D.Disk.Works l.fn.disk;
      same_len : g.D.Disk.file_len l.disk ≡ g.D.Disk.file_len l.fn.disk;
    }

abbrev pub decreases-bytes : goal.decreases-bytes
decreases-bytes g l = l.count - l.done
