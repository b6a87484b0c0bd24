use Rattle.std.proofs.Common.{◌≡◌, take}
use Rattle.rr_checkpoint.specs.Writer.{free_of}
use Rattle.rr_pages.specs.FreePages.{coming_of}
use Rattle.rr_pages.specs.Sets.{all_marked}
use Rattle.rr_checkpoint.specs.Plan.Writing.{OnlyTakes}
use Rattle.rr_reading.specs.Worlds.Spelling.{worlds}
use Rattle.rr_checkpoint.proofs.plan.keeping.keep_pages.Given as goal

abbrev pub invariant-loop-page : goal.invariant-loop-page
invariant-loop-page g l =
    record {
      coming : coming_of (free_of l.writer) ≡ all_marked (coming_of (free_of l.fn.writer)) (take l.page-index l.pages);
      only : OnlyTakes (worlds g.R.Rules.rules) l.fn.writer l.writer;
    }
