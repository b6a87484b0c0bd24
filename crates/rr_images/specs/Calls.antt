-- What each call of a commit and of a checkpoint leaves, by what journal and pages say of their calls: whatever a stop
-- within it leaves keeps the world, and behind it the disk is between two calls again.
use Rattle.std.specs.Prelude.{◌≡◌, ◌⊎◌, ℕ, ◌+◌, ◌*◌, ◌<◌, not, List, [], ◌∷◌, ◌++◌, length}
use Rattle.rr_pages.specs.declared.root.TheConstants.{ROOT_BYTES}
use Rattle.rr_pages.specs.declared.page.TheConstants.{PAGE_BYTES, OPEN}
use Rattle.rr_disk.specs.Disk.{DiskState, after_write, after_sync}
use Rattle.rr_disk.specs.Moments.{EachImage, TornFrom}
use Rattle.rr_pages.specs.declared.journal.half.Half.{Half}
use Rattle.rr_pages.specs.Journal.Layout.{gate_place, slots_for, spelling, other_half}
use Rattle.rr_pages.specs.Journal.Stops.{next_gate, IsReady, MayLeave}
use Rattle.rr_pages.specs.Device.{Shuts, MayShut, Flips, MayFlip}
use Rattle.rr_pages.specs.Roots.{root_gate, root_bytes, Shut}
use Rattle.rr_images.specs.Codec.{Codec}
use Rattle.rr_images.specs.Layout.{Stands, Layout, Begun, KeepsAt, KeepsUnder, IsSameRoot, IsEitherRoot}
use Rattle.rr_images.specs.Progress.{Plan, IsPlan, Progress, Resting, Writing, Shutting, Filling, IsBetween}
use Rattle.rr_images.specs.Steps.{with_stale, with_far, with_line, flipped, GoesOnAt}

-- the gate of slot 0 in the half that the root doesn't name, and that of the root that isn't taken
abbrev pub far_gate : {codec : Codec} → Layout codec → ℕ
far_gate layout = gate_place (other_half layout.root.half) 0

abbrev pub stale_gate : {codec : Codec} → Layout codec → ℕ
stale_gate layout = root_gate (not layout.side)

-- the half of the journal behind a record
abbrev pub part_behind : Half → List ℕ → Half
part_behind half line = record { index = half.index; next_slot = half.next_slot + slots_for (length line) }

-- what may be left keeps the world under such a root
abbrev pub LeaveKept : (codec : Codec) → (Layout codec → Type 0) → codec.World → (List ℕ → Type 0) → Type 0
LeaveKept codec IsRoot world MayBeLeft = (image : List ℕ) → MayBeLeft image → KeepsUnder codec IsRoot image world

-- After the last step of a checkpoint a file takes a newer root, whose chains spell the world before the first far
-- record. Behind it stand the records since then, and none in the other half.
pub record TakesNewer (codec : Codec) (layout : Layout codec) (world : codec.World) (file : List ℕ) : Type 0 where
  pub stands : Stands codec file world
  pub newer : layout.root.number < stands.root.number
  pub base : stands.base ≡ layout.middle
  pub near : Begun stands.near ≡ layout.far
  pub nothing_far : stands.far ≡ []

module _ (codec : Codec) (layout : Layout codec) (state : DiskState) where
  -- the other half's slot 0 is shut, and records go on there
  pub record Begins (world : codec.World) : Type 0 where
    pub leaves : LeaveKept codec (IsSameRoot layout) world (MayShut state (far_gate layout))
    pub done : (plan : Plan) (new : DiskState) → IsPlan codec layout plan → Shuts state (far_gate layout) new
        → IsBetween codec (with_far layout (Begun [])) new (Writing plan [] plan.fresh) world

  -- a fresh page is written, and waits for a sync
  pub record WritesPage (plan : Plan) (written : List (ℕ × List ℕ)) (fresh : ℕ × List ℕ) (left : List (ℕ × List ℕ))
      (world : codec.World) : Type 0 where
    pub whole : length fresh.1 ≡ PAGE_BYTES
    pub leaves : (image : List ℕ) → TornFrom state (PAGE_BYTES * fresh.0) PAGE_BYTES image → KeepsAt codec layout image world
    pub done : IsBetween codec layout (after_write state (PAGE_BYTES * fresh.0) fresh.1)
        (Writing plan (written ++ fresh ∷ []) left) world

  -- all fresh pages are written, and the stale root's gate is shut
  pub record ShutsStale (plan : Plan) (world : codec.World) : Type 0 where
    pub leaves : LeaveKept codec (IsSameRoot layout) world (MayShut state (stale_gate layout))
    pub done : (new : DiskState) → Shuts state (stale_gate layout) new
        → IsBetween codec (with_stale layout Shut) new (Shutting plan) world

  -- the next root is put behind the shut gate
  pub record FillsRoot (plan : Plan) (world : codec.World) : Type 0 where
    pub leaves : (image : List ℕ) → TornFrom state (stale_gate layout + 1) ROOT_BYTES image → KeepsAt codec layout image world
    pub done : IsBetween codec layout
        (after_sync (after_write state (stale_gate layout + 1) (root_bytes plan.root)))
        (Filling plan) world

  -- the gate is opened, and that root is taken
  abbrev pub opened_state : DiskState
  opened_state = after_sync (after_write state (stale_gate layout) (OPEN ∷ []))

  pub record OpensRoot (plan : Plan) (lines : List (List ℕ)) (world : codec.World) : Type 0 where
    pub leaves : LeaveKept codec (IsEitherRoot layout plan.holding) world (TornFrom state (stale_gate layout) 1)
    pub done : IsBetween codec (flipped layout plan.root plan.holding lines world) opened_state Resting world
    pub renewed : EachImage opened_state (TakesNewer codec layout world)

  -- the last three steps in one call
  pub record FlipsRoots (plan : Plan) (lines : List (List ℕ)) (world : codec.World) : Type 0 where
    pub leaves : LeaveKept codec (IsEitherRoot layout plan.holding) world
        (MayFlip state (stale_gate layout) (root_bytes plan.root))
    pub done : (new : DiskState) → Flips state (stale_gate layout) (root_bytes plan.root) new
        → IsBetween codec (flipped layout plan.root plan.holding lines world) new Resting world
    pub renewed : (new : DiskState) → Flips state (stale_gate layout) (root_bytes plan.root) new
        → EachImage new (TakesNewer codec layout world)

  -- a record is appended, wherever a checkpoint is
  abbrev pub appended_state : Half → ℕ → List ℕ → DiskState
  appended_state half number line = after_sync (after_write state (next_gate half) (spelling number line))

  pub record Appends (progress : Progress) (half : Half) (number : ℕ) (line : List ℕ)
      (old new : codec.World) : Type 0 where
    pub ready : IsReady half state
    pub leaves : (image : List ℕ) → MayLeave half state number line image
        → KeepsUnder codec (IsSameRoot layout) image old ⊎ KeepsUnder codec (IsSameRoot layout) image new
    pub done : IsBetween codec (with_line layout line new) (appended_state half number line) progress new
    pub goes_on : GoesOnAt (with_line layout line new) (part_behind half line) (number + 1)
