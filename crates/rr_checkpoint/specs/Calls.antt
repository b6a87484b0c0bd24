-- What the calls on an open file leave.
use Rattle.std.specs.Prelude.{◌≡◌, ◌⊎◌, ℕ, List, Option, None, Some}
use Rattle.rr_disk.specs.Disk.{DiskState}
use Rattle.rr_disk.specs.Moments.{EachImage, LeavesOnly}
use Rattle.rr_images.specs.Calls.{TakesNewer}
use Rattle.rr_images.specs.Codec.{Codec}
use Rattle.rr_images.specs.Holding.{Holding}
use Rattle.rr_images.specs.Layout.{KeepsUnder, IsComingRoot, IsSameRoot, Layout}
use Rattle.rr_pages.specs.declared.choosing.Taken.{Taken}
use Rattle.rr_checkpoint.specs.declared.checkpoint.Checkpoint.{Checkpoint}

-- At any moment of a step of a checkpoint, where so many are left, the root that is taken is the one from before, or, if
-- it is the last one, the one that was coming.
abbrev pub IsRootAt : {codec : Codec} → ℕ → Layout codec → Holding → Layout codec → Type 0
IsRootAt left old coming new = IsSameRoot old new ⊎ ((left ≡ 1) × IsComingRoot old coming new)

-- a stop at any moment of a call leaves a file that keeps the world under such a root
abbrev pub LeavesKept : (codec : Codec) → (Layout codec → Type 0) → List DiskState → DiskState → List DiskState
    → DiskState → codec.World → Type 0
LeavesKept codec IsRoot past_old old past_new new world =
    LeavesOnly past_old old past_new new (λ image. KeepsUnder codec IsRoot image world)

-- or it leaves one that keeps the world from before the call or the one behind it
abbrev pub LeavesEither : (codec : Codec) → (Layout codec → Type 0) → List DiskState → DiskState → List DiskState
    → DiskState → codec.World → codec.World → Type 0
LeavesEither codec IsRoot past_old old past_new new before behind =
    LeavesOnly past_old old past_new new
    (λ image. KeepsUnder codec IsRoot image before ⊎ KeepsUnder codec IsRoot image behind)

-- behind the last step each file that a stop may leave takes a newer root
abbrev pub Renews : (codec : Codec) → Layout codec → Option Checkpoint → DiskState → codec.World → Type 0
Renews codec layout (Some checkpoint) new world = Unit {0}
Renews codec layout None new world = EachImage new (TakesNewer codec layout world)

-- before the last step the same root is taken
abbrev pub StaysTaken : Option Checkpoint → Taken → Taken → Type 0
StaysTaken (Some checkpoint) old new = new ≡ old
StaysTaken None old new = Unit {0}
