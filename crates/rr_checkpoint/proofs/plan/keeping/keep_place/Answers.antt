use Rattle.rr_checkpoint.proofs.PlanLemmas.Frames.{stays}
use Rattle.rr_reading.specs.Worlds.Spelling.{worlds}
use Rattle.rr_checkpoint.proofs.plan.keeping.keep_place.Goals as goal

pub returns-in_default-clause-only : goal.returns-in_default-clause-only
returns-in_default-clause-only g c = stays (worlds g.R.Rules.rules) c.args.writer.now c.requires
