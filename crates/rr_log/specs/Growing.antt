-- How long the file of a log is behind a call, and which of its pages are taken.
use Rattle.std.specs.Prelude.{◌≡◌, ◌⊎◌, ℕ, ◌<◌, ◌≤◌, false, None}
use Rattle.rr_checkpoint.specs.Growing.{AreReclaimed, GrowsWhereFull}
use Rattle.rr_log.specs.declared.log.Log.{Log}
use Rattle.rr_log.specs.Log.{disk_of, free_of, is_broken, place_of, ticks_left}
use Rattle.rr_pages.specs.FreePages.{coming_of, present_of}

-- What a step of a checkpoint, or a record with the step before it, does to the length of the file. It becomes longer
-- only where no page under its end is free, and only by a step behind which the checkpoint is under way, or whose
-- device call failed: none of the last three writes a page, nor does the first, unless an opening found the checkpoint
-- begun.
pub record Grows {D R : Type 0} (len : D → ℕ) (old new : Log D R) : Type 0 where
  pub full : GrowsWhereFull (present_of (free_of new)) (coming_of (free_of new)) (len (disk_of old)) (len (disk_of new))
  pub rests : is_broken new ≡ false → ticks_left new ≡ 0 → len (disk_of new) ≡ len (disk_of old)
  pub ends : 0 < ticks_left old → ticks_left old ≤ 3 → len (disk_of new) ≡ len (disk_of old)
  pub begins : ticks_left old ≡ 0 → (place_of old).begun ≡ None → len (disk_of new) ≡ len (disk_of old)

-- Which pages are taken behind it: for the present root the same before the last step of a checkpoint, for the coming
-- one the same while it is under way; and behind the last step the coming root is the present one.
pub record TakesPages {D R : Type 0} (old new : Log D R) : Type 0 where
  pub resting : ticks_left old ≡ 0 → present_of (free_of new) ≡ present_of (free_of old)
  pub under_way : 1 < ticks_left old → free_of new ≡ free_of old
  pub last : ticks_left old ≡ 1 → (free_of new ≡ free_of old) ⊎ AreReclaimed (free_of old) (free_of new)
  pub reclaims : ticks_left old ≡ 1 → ticks_left new ≡ 0 → is_broken new ≡ false → AreReclaimed (free_of old) (free_of new)
