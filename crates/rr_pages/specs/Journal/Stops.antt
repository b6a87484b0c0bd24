-- What a half is before and after an append, and what a stop within one may leave.
use Rattle.std.specs.Prelude.{◌≡◌, ◌⊎◌, ℕ, ◌+◌, ◌<◌, List, [], ◌∷◌, length}
use Rattle.rr_disk.specs.Calls.{Step, Write, Sync}
use Rattle.rr_disk.specs.Disk.{DiskState, IsImage, Torn}
use Rattle.rr_disk.specs.Moments.{EachImage}
use Rattle.rr_pages.specs.declared.journal.half.Half.{Half}
use Rattle.rr_pages.specs.declared.page.TheConstants.{OPEN}
use Rattle.rr_pages.specs.declared.journal.reading.RunEnd.TheVariants.{Closed}
use Rattle.rr_pages.specs.Journal.Layout.{gate_place, IsOpen, StandsAt, spelling, spelling_behind_gate}
use Rattle.rr_pages.specs.Journal.Run.{Run, slots_of}

-- the byte at which the half's next record begins
abbrev pub next_gate : Half → ℕ
next_gate half = gate_place half.index half.next_slot

-- the calls that append a record: what is behind its gate and a sync, then its gate and a sync
abbrev pub appending : Half → ℕ → List ℕ → List Step
appending half number bytes =
    Write (next_gate half + 1) (spelling_behind_gate number bytes) ∷ Sync ∷ Write (next_gate half) (OPEN ∷ []) ∷ Sync ∷ []

-- The half may take a record: its next slot begins within the settled file, and each stop now leaves it shut.
pub record IsReady (half : Half) (state : DiskState) : Type 0 where
  pub within : next_gate half < length state.settled
  pub shut : EachImage state (λ image. IsOpen image half.index half.next_slot → ⊥)

-- Whatever a stop leaves now, the half has the records of these lines and no others, numbered on from the first, and
-- its next slot begins behind them.
pub record Keeps (half : Half) (state : DiskState) (first : ℕ) (lines : List (List ℕ)) : Type 0 where
  pub within : next_gate half < length state.settled
  pub next : half.next_slot ≡ slots_of lines
  pub each : EachImage state (λ image. Run image half.index 0 first lines Closed)

-- nothing is unsynced: a stop leaves what a read gives
abbrev pub IsAtRest : DiskState → Type 0
IsAtRest state = (state.ranges ≡ []) × (state.settled ≡ state.content)

-- A stop within the append of a record may leave this file: one that a stop before the append might have left, changed
-- at most in the record's place, with the record's slot shut or the whole record there.
pub record MayLeave (half : Half) (before : DiskState) (number : ℕ) (bytes image : List ℕ) : Type 0 where
  pub earlier : List ℕ
  pub was : IsImage before earlier
  pub elsewhere : Torn (next_gate half) (length (spelling number bytes)) earlier image
  pub whole : (IsOpen image half.index half.next_slot → ⊥) ⊎ StandsAt image (next_gate half) (spelling number bytes)
