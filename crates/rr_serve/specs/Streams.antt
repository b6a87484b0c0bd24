-- What an input and an output have seen, and what calls do to that.
use Rattle.std.specs.Prelude.{◌≡◌, ◌⊎◌, ℕ, ◌+◌, ◌-◌, ◌^◌, ◌≤◌, min, Bool, true, false, List, [], ◌∷◌, ◌++◌, length, Option, Some, Result, Ok, Err}
use Rattle.std.specs.Io.KnownBytes.{Appends, Consumes, Keeps}
use Rattle.rr_serve.specs.declared.faults.Fault.{Fault}
use Rattle.rr_serve.specs.declared.faults.Fault.TheVariants.{DeviceFailed, StreamFailed}

-- one more, up to the greatest number of 64 bits
abbrev pub counted : ℕ → ℕ
counted n = min (n + 1) (2 ^ 64 - 1)

pub record InputState : Type 0 where
  pub given : List ℕ  -- the bytes that it gave
  pub remaining : Option (List ℕ)  -- the bytes that it will give, where they are known; at its end they are, and none is left
  pub most : ℕ  -- it gives no more bytes than these
  pub failures : ℕ  -- how many reads failed, up to 2^64 - 1

-- it has told the end of its bytes
abbrev pub HasEnded : InputState → Type 0
HasEnded state = state.remaining ≡ Some []

-- it gave these bytes, and no read failed
pub record Gives (before : InputState) (bytes : List ℕ) (after : InputState) : Type 0 where
  pub given : after.given ≡ before.given ++ bytes
  pub consumed : Consumes before.remaining after.remaining bytes
  pub fewer : after.most + length bytes ≡ before.most
  pub none_failed : after.failures ≡ before.failures

-- a read failed, and nothing was given
pub record FailsToGive (before after : InputState) : Type 0 where
  pub given : after.given ≡ before.given
  pub kept : Keeps before.remaining after.remaining
  pub as_many : after.most ≡ before.most
  pub failed : after.failures ≡ counted before.failures

pub record OutputState : Type 0 where
  pub written : List ℕ  -- the bytes that it took
  pub contents : Option (List ℕ)  -- the bytes that the writer beneath holds, where they are known
  pub flushed : List ℕ  -- the bytes that it had taken as it was flushed last
  pub flushes : ℕ  -- how often it was flushed
  pub failures : ℕ  -- how many writes and flushes failed, up to 2^64 - 1

-- it took these bytes, and nothing failed
pub record Takes (before : OutputState) (bytes : List ℕ) (after : OutputState) : Type 0 where
  pub written : after.written ≡ before.written ++ bytes
  pub appended : Appends before.contents after.contents bytes
  pub flushes : after.flushes ≡ before.flushes
  pub none_failed : after.failures ≡ before.failures

-- all that it took was flushed
pub record Flushes (before after : OutputState) : Type 0 where
  pub written : after.written ≡ before.written
  pub kept : Keeps before.contents after.contents
  pub flushed : after.flushed ≡ before.written
  pub flushes : after.flushes ≡ before.flushes + 1
  pub none_failed : after.failures ≡ before.failures

-- a flush failed
pub record FailsToFlush (before after : OutputState) : Type 0 where
  pub written : after.written ≡ before.written
  pub kept : Keeps before.contents after.contents
  pub flushes : after.flushes ≡ before.flushes
  pub failed : after.failures ≡ counted before.failures

-- the whole reply was written and flushed
pub record IsSent (before : OutputState) (reply : List ℕ) (after : OutputState) : Type 0 where
  pub written : after.written ≡ before.written ++ reply
  pub appended : Appends before.contents after.contents reply
  pub flushed : after.flushed ≡ after.written
  pub flushes : after.flushes ≡ before.flushes + 1
  pub none_failed : after.failures ≡ before.failures

-- a front of the reply was written, and then a write or the flush failed
pub record IsCutShort (before : OutputState) (reply : List ℕ) (after : OutputState) : Type 0 where
  pub front : List ℕ
  pub more : List ℕ
  pub reply_is : reply ≡ front ++ more
  pub written : after.written ≡ before.written ++ front
  pub appended : Appends before.contents after.contents front
  pub flushes : after.flushes ≡ before.flushes
  pub failed : after.failures ≡ counted before.failures

-- a write failed: a front of the bytes was taken, and behind it some were left
pub record FailsToTake (before : OutputState) (bytes : List ℕ) (after : OutputState) : Type 0 where
  pub cut_short : IsCutShort before bytes after
  pub some_left : 1 ≤ length cut_short.more

-- the replies were sent, one after another: between them nothing is written, and nothing is held back
abbrev pub AreSent : OutputState → List (List ℕ) → OutputState → Type 0
AreSent before [] after = after ≡ before
AreSent before (reply ∷ replies) after =
    (mid : OutputState) × IsSent before reply mid × AreSent mid replies after

-- the bytes were written and noted, or only a front of them, as a write failed of some that were left
abbrev pub Writes : Option (List ℕ) → Option (List ℕ) → List ℕ → List ℕ → List ℕ → Bool → Type 0
Writes contents held old new bytes true = Appends contents held bytes × (new ≡ old ++ bytes)
Writes contents held old new bytes false =
    (front : List ℕ) × (more : List ℕ) × (bytes ≡ front ++ more) × Appends contents held front × (new ≡ old ++ front) × (1 ≤ length more)

-- Where a call ends so, a read or a write failed exactly if it says that a stream failed: then one did, and the other none.
-- The counts are those of the input before and after it, and those of the output.
abbrev pub CountsFailures : Result (Unit {0}) Fault → ℕ → ℕ → ℕ → ℕ → Type 0
CountsFailures (Ok _) read_before read_after written_before written_after =
    (read_after ≡ read_before) × (written_after ≡ written_before)
CountsFailures (Err DeviceFailed) read_before read_after written_before written_after =
    (read_after ≡ read_before) × (written_after ≡ written_before)
CountsFailures (Err StreamFailed) read_before read_after written_before written_after =
    ((read_after ≡ counted read_before) × (written_after ≡ written_before))
    ⊎ ((read_after ≡ read_before) × (written_after ≡ counted written_before))
