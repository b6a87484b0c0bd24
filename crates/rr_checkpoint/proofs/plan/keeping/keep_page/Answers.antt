use Rattle.rr_checkpoint.proofs.PlanLemmas.Frames.{stays}
use Rattle.rr_reading.specs.Worlds.Spelling.{worlds}
use Rattle.rr_checkpoint.proofs.plan.keeping.keep_page.Goals as goal

pub returns-else-page-lt-MOST_PAGES-clause-only : goal.returns-else-page-lt-MOST_PAGES-clause-only
returns-else-page-lt-MOST_PAGES-clause-only g c = stays (worlds g.R.Rules.rules) c.args.writer.now c.requires
