-- What a checkpoint has in memory, and how far it has come.
use Rattle.std.specs.Prelude.{ℕ, ◌+◌, ◌-◌, ◌<◌, length, take, drop, map, Option, None, Some}
use Rattle.rr_pages.specs.Writing.{fresh_of}
use Rattle.rr_images.specs.Holding.{Holding}
use Rattle.rr_images.specs.Progress as images
use Rattle.rr_images.specs.Progress.{Progress, Resting, Writing, Shutting, Filling}
use Rattle.rr_checkpoint.specs.declared.checkpoint.Plan.{Plan}
use Rattle.rr_checkpoint.specs.declared.checkpoint.Checkpoint.{Checkpoint}
use Rattle.rr_checkpoint.specs.declared.checkpoint.Stage.{Stage}
use Rattle.rr_checkpoint.specs.declared.checkpoint.Stage.TheVariants as S

-- the plan of files whose root will hold this
abbrev pub plan_of : Plan → Holding → images.Plan
plan_of plan holding = record { root = plan.root; holding = holding; fresh = map fresh_of plan.fresh.items }

-- a checkpoint of which no page is written
abbrev pub begun : Plan → Checkpoint
begun plan = record { plan = plan; stage = S.Writing 0 }

abbrev pub come_to : Stage → images.Plan → Progress
come_to (S.Writing written) plan = Writing plan (take written plan.fresh) (drop written plan.fresh)
come_to S.Shut plan = Shutting plan
come_to S.Filled plan = Filling plan

abbrev pub progress_of : Option Checkpoint → Holding → Progress
progress_of None holding = Resting
progress_of (Some checkpoint) holding = come_to checkpoint.stage (plan_of checkpoint.plan holding)

-- how many steps are left
abbrev pub left_at : Stage → ℕ → ℕ
left_at (S.Writing written) pages = pages - written + 3
left_at S.Shut pages = 2
left_at S.Filled pages = 1

abbrev pub left_of : Option Checkpoint → ℕ
left_of None = 0
left_of (Some checkpoint) = left_at checkpoint.stage (length checkpoint.plan.fresh.items)

-- How many ticks the first one leaves of a checkpoint of so many fresh pages. Where an opening found it begun, the
-- first one writes a page, and else it shuts slot 0 of the other half.
abbrev pub left_behind_first : Option ℕ → ℕ → ℕ
left_behind_first None pages = pages + 3
left_behind_first (Some first) pages = pages + 2

-- a fresh page is still to be written
abbrev pub HasPageLeft : Checkpoint → Type 0
HasPageLeft checkpoint = 3 < left_of (Some checkpoint)
