-- What a file's disk knows of the file.
use Rattle.std.specs.Prelude.{ℕ, Bool, List}
use Rattle.rr_disk.specs.Events.{Event}
use Rattle.rr_disk.specs.declared.file.FileDisk.{FileDisk}
use Rattle.rr_disk.specs.declared.start.Start.{Ghosts}

module _ {S : Type 0} {start : Ghosts S} where
  -- the length that it goes by
  abbrev pub len_of : FileDisk S start → ℕ
  len_of disk = disk.len

  -- the system refused a call that it has to take: a read within the file, a write that ends by 2^63, a sync
  abbrev pub has_refused : FileDisk S start → Bool
  has_refused disk = disk.refused

  -- the calls that it answered, the newest first
  abbrev pub events_of : FileDisk S start → List Event
  events_of disk = disk.record.events

  abbrev pub file_faults : FileDisk S start → ℕ
  file_faults disk = disk.faults

  abbrev pub file_writes : FileDisk S start → ℕ
  file_writes disk = disk.writes

  abbrev pub file_syncs : FileDisk S start → ℕ
  file_syncs disk = disk.syncs
