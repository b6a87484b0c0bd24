-- What the calls on an open file leave of what its roots hold.
use Rattle.std.specs.Prelude.{◌≡◌, ℕ, ◌+◌, List, Option, None, Some}
use Rattle.rr_images.specs.Codec.{Codec}
use Rattle.rr_images.specs.Holding.{Holding}
use Rattle.rr_images.specs.Layout.{Layout, Begun, far_lines}
use Rattle.rr_images.specs.Progress.{IsBegun, IsNotBegun}
use Rattle.rr_images.specs.Steps.{with_line}
use Rattle.rr_checkpoint.specs.declared.checkpoint.Checkpoint.{Checkpoint}
use Rattle.rr_checkpoint.specs.declared.writer.Tick.{Tick}
use Rattle.rr_checkpoint.specs.declared.writer.Tick.TheVariants.{Idle, More, Done}

-- The present root, what it holds and what that spells stay, the coming one will hold what it was to hold, and the world
-- before the first record of the other half and the records there stay.
pub record HoldsOn {codec : Codec} (old : Layout codec) (coming_old : Holding) (new : Layout codec)
    (coming_new : Holding) : Type 0 where
  pub root : new.root ≡ old.root
  pub base : new.base ≡ old.base
  pub present : new.holding ≡ old.holding
  pub coming : coming_new ≡ coming_old
  pub middle : new.middle ≡ old.middle
  pub far : new.far ≡ old.far

-- The same of a checkpoint that is begun: the other half has the records that an opening found there, and else none.
pub record HoldsAsBegun {codec : Codec} (old : Layout codec) (coming_old : Holding) (new : Layout codec)
    (coming_new : Holding) : Type 0 where
  pub root : new.root ≡ old.root
  pub base : new.base ≡ old.base
  pub present : new.holding ≡ old.holding
  pub coming : coming_new ≡ coming_old
  pub middle : new.middle ≡ old.middle
  pub far : new.far ≡ Begun (far_lines old.far)

-- The same of a record more, whose line leads to this world: one that goes to the root's half leads to another world
-- before the first record of the other half.
pub record HoldsWithRecord {codec : Codec} (old : Layout codec) (coming_old : Holding) (line : List ℕ) (world : codec.World)
    (new : Layout codec) (coming_new : Holding) : Type 0 where
  pub layout : new ≡ with_line old line world
  pub present : new.holding ≡ old.holding
  pub coming : coming_new ≡ coming_old
  pub middle : IsBegun old.far → new.middle ≡ old.middle

-- Behind the last step of a checkpoint the root of the next number is taken. Its chains spell the world before the
-- first record of the other half, behind it stand the records of that half, and there records go on.
pub record IsRenewed {codec : Codec} (old new : Layout codec) : Type 0 where
  pub next : new.root.number ≡ old.root.number + 1
  pub base : new.base ≡ old.middle
  pub near : Begun new.near ≡ old.far
  pub rests : IsNotBegun new.far

-- and it holds what it was to hold
pub record HoldsRenewed {codec : Codec} (old : Layout codec) (coming_old : Holding) (new : Layout codec) : Type 0 where
  pub present : new.holding ≡ coming_old
  pub renewed : IsRenewed old new

-- the same of a step of a checkpoint; behind the last one the root holds what the coming one was to hold
abbrev pub HoldsBehind : {codec : Codec} → Option Checkpoint → Layout codec → Holding → Layout codec → Holding → Type 0
HoldsBehind (Some checkpoint) old coming_old new coming_new = HoldsOn old coming_old new coming_new
HoldsBehind None old coming_old new coming_new = HoldsRenewed old coming_old new

-- and as a tick tells it
abbrev pub HoldsAt : {codec : Codec} → Tick → Layout codec → Holding → Layout codec → Holding → Type 0
HoldsAt Idle old coming_old new coming_new = HoldsOn old coming_old new coming_new
HoldsAt More old coming_old new coming_new = HoldsOn old coming_old new coming_new
HoldsAt Done old coming_old new coming_new = HoldsRenewed old coming_old new

-- behind the last step records go on in the root's half
abbrev pub RestsBehind : Option Checkpoint → Option ℕ → Type 0
RestsBehind (Some checkpoint) begun = Unit {0}
RestsBehind None begun = begun ≡ None

abbrev pub RestsAt : Tick → Option ℕ → Type 0
RestsAt Idle begun = Unit {0}
RestsAt More begun = Unit {0}
RestsAt Done begun = begun ≡ None
