-- What device calls on gates and roots do, and what a stop within them may leave.
use Rattle.std.specs.Prelude.{◌≡◌, ◌≢◌, ◌⊎◌, ℕ, ◌+◌, ◌==◌, if◌then◌else◌, List, [], ◌∷◌, slice_index}
use Rattle.rr_pages.specs.declared.root.TheConstants.{ROOT_BYTES}
use Rattle.rr_pages.specs.declared.page.TheConstants.{OPEN}
use Rattle.rr_disk.specs.Calls.{Step, Write, Sync, Account, StopsWithin}
use Rattle.rr_disk.specs.Disk.{DiskState, IsImage, after_write, after_sync}
use Rattle.rr_disk.specs.Moments.{TornFrom}

-- the gate was open, as far as a read tells, and was written; or it was shut, and only the sync was made
pub data Shuts (old : DiskState) (at : ℕ) (new : DiskState) : Type 0 where
  By_write : slice_index old.content at ≡ OPEN → new ≡ after_sync (after_write old at (0 ∷ [])) → Shuts old at new
  By_sync : slice_index old.content at ≢ OPEN → new ≡ after_sync old → Shuts old at new

-- what a stop within it may leave: an image of before, torn at the gate only where that was open
abbrev pub MayShut : DiskState → ℕ → List ℕ → Type 0
MayShut old at image = IsImage old image ⊎ ((slice_index old.content at ≡ OPEN) × TornFrom old at 1 image)

-- the calls that shut a gate: where it is open, as far as a read tells, a write and a sync, and else a sync alone
abbrev pub shutting : DiskState → ℕ → List Step
shutting old at = if slice_index old.content at == OPEN then Write at (0 ∷ []) ∷ Sync ∷ [] else Sync ∷ []

-- the read failed, and none of them was made; or they were made up to one that failed
abbrev pub StopsShutting : Account → ℕ → Account → Type 0
StopsShutting old at new = (new ≡ old) ⊎ StopsWithin old (shutting old.state at) new

-- a root's gate is shut, then these bytes are put behind it, then it is opened, each with a sync
pub record Flips (old : DiskState) (gate : ℕ) (bytes : List ℕ) (new : DiskState) : Type 0 where
  pub closed : DiskState
  pub closes : Shuts old gate closed
  pub opens : new ≡ after_sync (after_write (after_sync (after_write closed (gate + 1) bytes)) gate (OPEN ∷ []))

-- What a stop within that may leave: what it may leave while the gate is shut; or with the gate shut an image torn
-- behind it; or with all bytes behind it an image torn at the gate.
pub data MayFlip (old : DiskState) (gate : ℕ) (bytes image : List ℕ) : Type 0 where
  While_shutting : MayShut old gate image → MayFlip old gate bytes image
  While_filling : (closed : DiskState) → Shuts old gate closed → TornFrom closed (gate + 1) ROOT_BYTES image → MayFlip old gate bytes image
  While_opening : (closed : DiskState) → Shuts old gate closed → TornFrom (after_sync (after_write closed (gate + 1) bytes)) gate 1 image → MayFlip old gate bytes image
