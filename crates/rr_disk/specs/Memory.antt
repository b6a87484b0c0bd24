-- What a disk in memory holds.
use Rattle.std.specs.Prelude.{◌≡◌, ℕ, Bool, false, List, []}
use Rattle.rr_disk.specs.Disk.{DiskState}
use Rattle.rr_disk.specs.Cached.{state_of}
use Rattle.rr_disk.specs.CallLog.{past_of, used_of}
use Rattle.rr_disk.specs.Replay.{settled_state}
use Rattle.rr_disk.specs.declared.memory.MemoryDisk.{MemoryDisk}

abbrev pub memory_state : MemoryDisk → DiskState
memory_state disk = state_of disk.file

abbrev pub memory_past : MemoryDisk → List DiskState
memory_past disk = past_of disk.log

-- the limit, in bytes, and what the calls so far take of it: the bytes of all writes, and 16 for each write and sync
abbrev pub room_of : MemoryDisk → ℕ
room_of disk = disk.room

abbrev pub used_of_room : MemoryDisk → ℕ
used_of_room disk = used_of disk.log

-- a call was refused for want of room
abbrev pub is_full : MemoryDisk → Bool
is_full disk = disk.full

abbrev pub memory_faults : MemoryDisk → ℕ
memory_faults disk = disk.faults

abbrev pub memory_writes : MemoryDisk → ℕ
memory_writes disk = disk.writes

abbrev pub memory_syncs : MemoryDisk → ℕ
memory_syncs disk = disk.syncs

-- a disk with this content, all of it settled, on which no call was made
pub record IsFresh (content : List ℕ) (room : ℕ) (disk : MemoryDisk) : Type 0 where
  pub state : memory_state disk ≡ settled_state content
  pub past : memory_past disk ≡ []
  pub limit : room_of disk ≡ room
  pub used : used_of_room disk ≡ 0
  pub works : is_full disk ≡ false
  pub faults : memory_faults disk ≡ 0
  pub writes : memory_writes disk ≡ 0
  pub syncs : memory_syncs disk ≡ 0
