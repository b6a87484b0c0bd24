use Rattle.std.proofs.Common.{refl, arith}
use Rattle.rr_checkpoint.specs.Writer.{free_of}
use Rattle.rr_pages.specs.FreePages.{coming_of}
use Rattle.rr_checkpoint.proofs.PlanLemmas.Frames.{stays, onward, one_marked}
use Rattle.rr_reading.specs.Worlds.Spelling.{worlds}
use Rattle.rr_checkpoint.proofs.plan.keeping.keep_pages.Goals as goal

pub loop-page-init : goal.loop-page-init
loop-page-init g c = record { coming = refl; only = stays (worlds g.R.Rules.rules) c.args.writer.now c.requires }

pub loop-page-preserved : goal.loop-page-preserved
loop-page-preserved g c =
    record {
      coming = one_marked (coming_of (free_of c.args.writer.now)) (coming_of (free_of c.loop-page.writer)) (coming_of (free_of c.keep_page.new.writer)) c.args.pages.now c.loop-page.page-index
          (omega (arith, c.loop-page-test.true)) c.loop-page.invariant.coming c.keep_page.ensures.coming;
      only = onward (worlds g.R.Rules.rules) c.args.writer.now c.loop-page.writer c.keep_page.new.writer c.loop-page.invariant.only c.keep_page.ensures.only;
    }
