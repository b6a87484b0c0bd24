use Rattle.rr_moderator.proofs.LawfulLemmas.{lawful_best}
use Rattle.rr_moderator.proofs.laws.best_runs_are_lawful.Goals as goal

pub returns : goal.returns
returns c = lawful_best
