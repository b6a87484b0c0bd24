-- What becomes of the roots of a log by a call.
use Rattle.std.specs.Prelude.{◌≡◌, ◌⊎◌, ◌<◌, List, None}
use Rattle.rr_images.specs.Holding.{Holding}
use Rattle.rr_images.specs.Layout.{IsComingRoot, IsSameRoot, Layout}
use Rattle.rr_log.specs.declared.log.Log.{Log}
use Rattle.rr_log.specs.Carrying.{HoldsWorld}
use Rattle.rr_log.specs.Log.{ticks_left}
use Rattle.rr_reading.specs.Worlds.Spelling.{worlds}
use Rattle.rr_reading.specs.Worlds.World.{Snapshot, WorldRules}

-- A step of a checkpoint, or a record with the step before it, leaves the root that is taken, but for the last step: then
-- it is the one that was coming. While a checkpoint is under way, the world before the first record of the other half
-- stays, and what the coming root is to hold. Where one is begun, that is this world, and these snapshots. Where none is
-- under way behind it, and tables are kept for one that an opening found begun, they were kept before, and are still those
-- of that world.
pub record KeepsRoots {D R : Type 0} {rules : WorldRules} (old new : Log D R) (due : List Snapshot)
    (before : Layout (worlds rules)) (coming_before : Holding) (after : Layout (worlds rules)) (coming_after : Holding) : Type 0 where
  pub stays : (ticks_left old ≡ 1 → ticks_left new ≡ 0 → ⊥) → IsSameRoot before after
  pub takes : ticks_left old ≡ 1 → ticks_left new ≡ 0 → IsComingRoot before coming_before after
  pub goes_on : 0 < ticks_left old → 0 < ticks_left new → (after.middle ≡ before.middle) × (coming_after ≡ coming_before)
  pub begins : ticks_left old ≡ 0 → 0 < ticks_left new → (after.middle ≡ before.middle) × HoldsWorld before.middle due coming_after
  pub rests : ticks_left new ≡ 0 → (new.base ≡ None) ⊎ ((ticks_left old ≡ 0) × (new.base ≡ old.base) × (after.middle ≡ before.middle))

-- A whole checkpoint takes the root that was coming, or one that holds the world before the first record of the other
-- half, and these snapshots.
pub record TakesRoot {D R : Type 0} {rules : WorldRules} (old : Log D R) (due : List Snapshot)
    (before : Layout (worlds rules)) (coming : Holding) (after : Layout (worlds rules)) : Type 0 where
  pub under_way : 0 < ticks_left old → IsComingRoot before coming after
  pub whole : ticks_left old ≡ 0 → (after.base ≡ before.middle) × HoldsWorld before.middle due after.holding

-- at any moment of a whole checkpoint the root that is taken is the one from before it, or already the one behind it
abbrev pub IsRootWithin : {D R : Type 0} {rules : WorldRules} → Log D R → List Snapshot → Layout (worlds rules) → Holding
    → Layout (worlds rules) → Type 0
IsRootWithin old due before coming then = IsSameRoot before then ⊎ TakesRoot old due before coming then
