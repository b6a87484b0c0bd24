use Rattle.std.proofs.Common.{◌≡◌, ℕ, ◌+◌, ◌-◌, ◌≤◌, List, ◌++◌, length}
use Rattle.rr_pages.specs.declared.journal.reading.RunEnd.{RunEnd}
use Rattle.rr_pages.specs.Journal.Reading.{lines}
use Rattle.rr_pages.specs.Journal.Run.{Run, slots_of}
use Rattle.rr_pages.proofs.journal.reading.scan.Given as goal

-- the records so far, and those from the next slot on, are those of the half
abbrev pub invariant-loop-half : goal.invariant-loop-half
invariant-loop-half g l =
    record {
      index : l.half.index ≡ l.fn.index;
      next : l.half.next_slot ≡ slots_of (lines l.records.items);
      few : length l.records.items ≤ l.half.next_slot;
      number : l.number ≡ l.fn.first_number + length l.records.items;
      rest : g.D.Disk.Honest l.disk → (more : List (List ℕ)) (end : RunEnd) → Run (g.D.Disk.state l.fn.disk).content l.fn.index l.half.next_slot l.number more end
          → Run (g.D.Disk.state l.fn.disk).content l.fn.index 0 l.fn.first_number (lines l.records.items ++ more) end;
      honest : g.D.Disk.Honest l.disk → g.D.Disk.Honest l.fn.disk;
      same_state : g.D.Disk.Honest l.disk → g.D.Disk.state l.disk ≡ g.D.Disk.state l.fn.disk;
      same_past : g.D.Disk.Honest l.disk → g.D.Disk.past l.disk ≡ g.D.Disk.past l.fn.disk;
      faults : g.D.Disk.fault_count l.disk ≡ g.D.Disk.fault_count l.fn.disk;
      writes : g.D.Disk.write_count l.disk ≡ g.D.Disk.write_count l.fn.disk;
      syncs : g.D.Disk.sync_count l.disk ≡ g.D.Disk.sync_count l.fn.disk;
      works : g.D.Disk.Works l.disk → g.D.Disk.Works l.fn.disk;
      same_len : g.D.Disk.file_len l.disk ≡ g.D.Disk.file_len l.fn.disk;
    }

abbrev pub decreases-loop-half : goal.decreases-loop-half
decreases-loop-half g l = 255 - l.half.next_slot
