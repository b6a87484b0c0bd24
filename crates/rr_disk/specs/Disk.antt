-- What a disk holds, what its calls do to that, and what a stop may leave of it.
-- Bytes are numbers here; that they are below 256 is nowhere used, so what is said of every image is said of more lists
-- than a disk can hold.
use Rattle.std.specs.Prelude.{◌≡◌, ◌⊎◌, ℕ, zero, suc, ◌+◌, ◌-◌, ◌^◌, ◌<◌, ◌≤◌, min, max, ◌==◌, if◌then◌else◌, List, [], ◌∷◌, ◌++◌, length, take, drop, replicate, slice_index, Result, Ok, Err}
use Rattle.rr_disk.specs.declared.fault.Fault.{Fault}
use Rattle.rr_disk.specs.declared.fault.Fault.TheVariants.{DeviceFailed}

pub record DiskState : Type 0 where
  pub content : List ℕ  -- what a read gives
  pub settled : List ℕ  -- the content at the last sync that succeeded
  pub ranges : List (ℕ × ℕ)  -- start and end of each write since then, in order of writing

-- byte i is in none of these ranges
abbrev pub IsOutside : List (ℕ × ℕ) → ℕ → Type 0
IsOutside [] i = Unit {0}
IsOutside (range ∷ ranges) i = ((i < range.0) ⊎ (range.1 ≤ i)) × IsOutside ranges i

-- the greatest end of these ranges
abbrev pub furthest_end : List (ℕ × ℕ) → ℕ
furthest_end [] = 0
furthest_end (range ∷ ranges) = max range.1 (furthest_end ranges)

-- a stop in this state may leave this file: the settled bytes outside all ranges written since, any bytes inside them
-- and past the settled end, and a length from the settled one to the furthest end of those ranges
pub record IsImage (state : DiskState) (image : List ℕ) : Type 0 where
  pub no_shorter : length state.settled ≤ length image
  pub no_longer : length image ≤ max (length state.settled) (furthest_end state.ranges)
  pub kept : (i : ℕ) → i < length state.settled → IsOutside state.ranges i → slice_index image i ≡ slice_index state.settled i

-- the file with these bytes at this place; a gap before them is zeros
abbrev pub written : List ℕ → ℕ → List ℕ → List ℕ
written file at bytes = take at file ++ replicate (at - length file) 0 ++ bytes ++ drop (at + length bytes) file

-- how long a file of this length is after a write of n bytes
abbrev pub length_after : ℕ → ℕ → ℕ → ℕ
length_after len at n = if n == 0 then len else max len (at + n)

-- after a write that succeeds. An empty one changes nothing
abbrev pub after_write : DiskState → ℕ → List ℕ → DiskState
after_write state at [] = state
after_write state at (byte ∷ bytes) =
    record {
      content = written state.content at (byte ∷ bytes);
      settled = state.settled;
      ranges = state.ranges ++ (at, at + length (byte ∷ bytes)) ∷ [];
    }

-- after a sync that succeeds
abbrev pub after_sync : DiskState → DiskState
after_sync state = record { content = state.content; settled = state.content; ranges = [] }

-- After a write that failed: so many bytes of its range are unsynced, also past the end of the file, and a read gives
-- these bytes in the front of it. Where none is unsynced nothing changed
abbrev pub after_failed_write : DiskState → ℕ → ℕ → List ℕ → DiskState
after_failed_write state at zero front = state
after_failed_write state at (suc n) front =
    record {
      content = (after_write state at front).content;
      settled = state.settled;
      ranges = state.ranges ++ (at, at + suc n) ∷ [];
    }

-- A write of n bytes that fails: nothing went out; or its range is unsynced, up to all of it, and a read gives other
-- bytes in a front of that.
pub data FailedWrite (at n : ℕ) (past_old : List DiskState) (old : DiskState) (past_new : List DiskState) (new : DiskState) : Type 0 where
  Nothing_out : past_new ≡ past_old → new ≡ old → FailedWrite at n past_old old past_new new
  Some_out : (upto : ℕ) (front : List ℕ) → length front ≤ upto → upto ≤ n → past_new ≡ old ∷ past_old → new ≡ after_failed_write old at upto front
      → FailedWrite at n past_old old past_new new

-- the file after a write of n bytes at this place that a stop cut short: any bytes in the range and past the old end,
-- the same elsewhere
pub record Torn (at n : ℕ) (old new : List ℕ) : Type 0 where
  pub no_shorter : length old ≤ length new
  pub no_longer : length new ≤ max (length old) (at + n)
  pub same : (i : ℕ) → i < length old → (i < at) ⊎ (at + n ≤ i) → slice_index new i ≡ slice_index old i

-- these bytes are in the file at this place
pub record IsAt (file : List ℕ) (at : ℕ) (bytes : List ℕ) : Type 0 where
  pub within : at + length bytes ≤ length file
  pub same : take (length bytes) (drop at file) ≡ bytes

-- one more, up to the greatest number of 64 bits
abbrev pub counted : ℕ → ℕ
counted n = min (n + 1) (2 ^ 64 - 1)

-- so many more, counted one by one
unfoldable pub counted_by : ℕ → ℕ → ℕ
counted_by zero n = n
counted_by (suc more) n = counted (counted_by more n)

-- a device call that fails does so by `DeviceFailed`, and it alone is counted
abbrev pub CountsFault : {T : Type 0} → ℕ → ℕ → Result T Fault → Type 0
CountsFault old new (Ok value) = new ≡ old
CountsFault old new (Err fault) = (fault ≡ DeviceFailed) × (new ≡ counted old)
