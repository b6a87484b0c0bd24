use Rattle.std.proofs.Common.{Bor, Option, ap}
use Rattle.std.specs.Option.{option_copied}
use Rattle.rr_checkpoint.specs.declared.plan.standing.StandingSnapshot.{StandingSnapshot}
use Rattle.rr_checkpoint.specs.Writer.{free_of}
use Rattle.rr_pages.specs.FreePages.{present_of, coming_of}
use Rattle.rr_checkpoint.specs.Plan.Snapshots.{snapshot_of}
use Rattle.rr_checkpoint.proofs.PlanLemmas.Frames.{stays}
use Rattle.rr_checkpoint.proofs.PlanLemmas.LaidSnapshots.{if_kept}
use Rattle.rr_reading.specs.Worlds.Spelling.{worlds}
use Rattle.rr_checkpoint.proofs.plan.laying.place_snapshot.Goals as goal

pub returns-in-Some-clause-placed : goal.returns-in-Some-clause-placed
returns-in-Some-clause-placed g c =
    let writer = c.args.writer.now in
    if_kept (present_of (free_of writer)) (coming_of (free_of writer)) c.args.fresh.now.items (snapshot_of c.args.snapshot.now) (option_copied c.args.place) c.in-Some.standing.now c.copied.result
    (ap (λ (place : Option (Bor StandingSnapshot)). option_copied place) c.in-Some.is) c.requires.same c.copied.ensures.snapshot c.copied.ensures.chain

pub returns-in-Some-clause-only : goal.returns-in-Some-clause-only
returns-in-Some-clause-only g c = stays (worlds g.R.Rules.rules) c.args.writer.now c.requires.resting
