use Rattle.rr_search.proofs.BestRunLemmas.Staying.{home_sheet}
use Rattle.rr_search.proofs.best_run.laws.trains_may_stay.Goals as goal

pub returns : goal.returns
returns c = home_sheet
