use Rattle.std.proofs.Common.{refl, arith}
use Rattle.rr_checkpoint.specs.Writer.{free_of}
use Rattle.rr_pages.specs.FreePages.{coming_of}
use Rattle.rr_checkpoint.proofs.PlanLemmas.Frames.{stays, onward}
use Rattle.rr_checkpoint.proofs.PlanLemmas.StandingLemmas.{next_kept, next_left}
use Rattle.rr_reading.specs.Worlds.Spelling.{worlds}
use Rattle.rr_checkpoint.proofs.plan.keeping.keep_standing.Goals as goal

pub loop-snapshot-init : goal.loop-snapshot-init
loop-snapshot-init g c = record { coming = refl; left = refl; only = stays (worlds g.R.Rules.rules) c.args.writer.now c.requires }

pub loop-snapshot-preserved : goal.loop-snapshot-preserved
loop-snapshot-preserved g c =
    let writer = c.args.writer.now in
    let now = c.loop-snapshot.writer in
    let next = c.keep_next-rest.new.writer in
    let so_far = c.loop-snapshot.invariant in
    record {
      coming = next_kept (coming_of (free_of writer)) (coming_of (free_of now)) (coming_of (free_of next)) c.args.standing.now c.loop-snapshot.rest.now c.args.snapshots.now c.loop-snapshot.snapshot-index c.snapshot-item.result
          (omega (arith, c.loop-snapshot-test.true)) c.snapshot-item.is so_far.left so_far.coming c.keep_next-rest.ensures.coming;
      left = next_left c.args.standing.now c.loop-snapshot.rest.now c.keep_next-rest.result.now c.args.snapshots.now c.loop-snapshot.snapshot-index c.snapshot-item.result
          (omega (arith, c.loop-snapshot-test.true)) c.snapshot-item.is so_far.left c.keep_next-rest.ensures.left;
      only = onward (worlds g.R.Rules.rules) writer now next so_far.only c.keep_next-rest.ensures.only;
    }
