-- What a stop may leave at any moment from an earlier one on.
-- A disk's states are the present one and, newest first, those before each write and sync. A stop within a write leaves
-- an image of the state after it, and a stop within a sync one of the state before it: so these states are all moments.
use Rattle.std.specs.Prelude.{◌≡◌, ℕ, List, [], ◌∷◌, ◌++◌}
use Rattle.rr_disk.specs.Disk.{DiskState, IsImage, Torn, after_sync}

-- a stop in this state leaves only files that have P
abbrev pub EachImage : DiskState → (List ℕ → Type 0) → Type 0
EachImage state P = (image : List ℕ) → IsImage state image → P image

abbrev pub EachImageOf : List DiskState → (List ℕ → Type 0) → Type 0
EachImageOf [] P = Unit {0}
EachImageOf (state ∷ states) P = EachImage state P × EachImageOf states P

-- a stop at any moment from the earlier one on leaves only files that have P
pub record LeavesOnly (past_old : List DiskState) (old : DiskState) (past_new : List DiskState) (new : DiskState) (P : List ℕ → Type 0) : Type 0 where
  pub since : List DiskState  -- the states after the earlier one, newest first
  pub goes_on : new ∷ past_new ≡ since ++ old ∷ past_old
  pub first : EachImage old P
  pub each : EachImageOf since P

-- an image of an earlier state, torn in a range of n bytes
pub record TornFrom (before : DiskState) (at n : ℕ) (image : List ℕ) : Type 0 where
  pub earlier : List ℕ
  pub was : IsImage before earlier
  pub torn : Torn at n earlier image

-- one sync at most, and no write
pub data SyncsOnce (past_old : List DiskState) (old : DiskState) (past_new : List DiskState) (new : DiskState) : Type 0 where
  Not_synced : past_new ≡ past_old → new ≡ old → SyncsOnce past_old old past_new new
  Synced : past_new ≡ old ∷ past_old → new ≡ after_sync old → SyncsOnce past_old old past_new new
