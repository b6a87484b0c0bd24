use Rattle.rr_reading.proofs.WorldLemmas.Drafts.{checkpoints_spell}
use Rattle.rr_reading.proofs.worlds.laws.checkpoints_spell_worlds.Goals as goal

pub returns : goal.returns
returns g _ = checkpoints_spell g.R.Rules.rules
