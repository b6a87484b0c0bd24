-- A disk in memory writes down each write and sync; its past is what replaying them passes through.
use Rattle.std.specs.Prelude.{ℕ, ◌+◌, List, [], ◌∷◌, take, drop}
use Rattle.rr_disk.specs.Disk.{DiskState, after_write, after_sync}
use Rattle.rr_disk.specs.declared.call.Call.{Call}
use Rattle.rr_disk.specs.declared.call.Call.TheVariants.{Write, Sync}

-- how many bytes a call took from those written down
abbrev pub bytes_of : Call → ℕ
bytes_of (Write at n) = n
bytes_of Sync = 0

abbrev pub length_of : List Call → ℕ
length_of [] = 0
length_of (call ∷ calls) = bytes_of call + length_of calls

-- the state after a call, whose bytes come first
abbrev pub after_call : DiskState → Call → List ℕ → DiskState
after_call state (Write at n) bytes = after_write state at (take n bytes)
after_call state Sync bytes = after_sync state

-- the state after all calls
abbrev pub replayed : DiskState → List Call → List ℕ → DiskState
replayed state [] bytes = state
replayed state (call ∷ calls) bytes = replayed (after_call state call bytes) calls (drop (bytes_of call) bytes)

-- the states before each of them, newest first, in front of earlier ones
abbrev pub passed : List DiskState → DiskState → List Call → List ℕ → List DiskState
passed past state [] bytes = past
passed past state (call ∷ calls) bytes = passed (state ∷ past) (after_call state call bytes) calls (drop (bytes_of call) bytes)

-- a settled file
abbrev pub settled_state : List ℕ → DiskState
settled_state content = record { content = content; settled = content; ranges = [] }
