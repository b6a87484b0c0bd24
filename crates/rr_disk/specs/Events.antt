-- The calls that a file answered, and what an honest file answers.
use Rattle.std.specs.Prelude.{◌≡◌, ℕ, List, [], ◌∷◌, length, refl}
use Rattle.rr_disk.specs.Disk.{DiskState, IsImage, IsAt, after_write, after_failed_write, after_sync}
use Rattle.rr_disk.specs.declared.file_record.FileCall.{FileCall}
use Rattle.rr_disk.specs.declared.file_record.FileCall.TheVariants.{Length, Read, Write, FailedWrite, Sync}
use Rattle.std.proofs.Common.{lit≤}

-- a call, and the bytes that it gave or was given
abbrev pub Event : Type 0
Event = FileCall × List ℕ

-- calls with these bytes behind earlier ones, the newest first
abbrev pub noted : List FileCall → List ℕ → List Event → List Event
noted [] bytes events = events
noted (call ∷ calls) bytes events = (call, bytes) ∷ noted calls bytes events

-- What a call does to what the file holds. Of a write that failed nothing is seen, and its whole range is unsynced.
abbrev pub after_event : DiskState → FileCall → List ℕ → DiskState
after_event state (Length len) bytes = state
after_event state (Read at) bytes = state
after_event state (Write at) bytes = after_write state at bytes
after_event state (FailedWrite at) bytes = after_failed_write state at (length bytes) []
after_event state Sync bytes = after_sync state

abbrev pub past_event : List DiskState → DiskState → FileCall → List DiskState
past_event past state (Length len) = past
past_event past state (Read at) = past
past_event past state (Write at) = state ∷ past
past_event past state (FailedWrite at) = state ∷ past
past_event past state Sync = state ∷ past

-- what a file holds that held so much at first, and the states before each write and sync
abbrev pub state_after : DiskState → List Event → DiskState
state_after held [] = held
state_after held (event ∷ events) = after_event (state_after held events) event.0 event.1

abbrev pub past_after : DiskState → List Event → List DiskState
past_after held [] = []
past_after held (event ∷ events) = past_event (past_after held events) (state_after held events) event.0

-- a file in this state answers a call so
abbrev pub IsAnswer : DiskState → FileCall → List ℕ → Type 0
IsAnswer state (Length len) bytes = len ≡ length state.content
IsAnswer state (Read at) bytes = IsAt state.content at bytes
IsAnswer state (Write at) bytes = Unit {0}
IsAnswer state (FailedWrite at) bytes = Unit {0}
IsAnswer state Sync bytes = Unit {0}

-- all answers are those of a file that held so much at first
abbrev pub Agree : DiskState → List Event → Type 0
Agree held [] = Unit {0}
Agree held (event ∷ events) = Agree held events × IsAnswer (state_after held events) event.0 event.1

-- an empty file may stay
pub empty_may_stay : IsImage (record { content = []; settled = []; ranges = [] }) []
empty_may_stay = record { no_shorter = lit≤ tt; no_longer = lit≤ tt; kept = λ i h out. refl }
