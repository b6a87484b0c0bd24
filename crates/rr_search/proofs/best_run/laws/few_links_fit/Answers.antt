use Rattle.rr_search.proofs.BestRunLemmas.Lengths.{eleven_links_never_lack, few_links_fit, only_large_trees_lack}
use Rattle.rr_search.proofs.best_run.laws.few_links_fit.Goals as goal

pub returns-clause-fit : goal.returns-clause-fit
returns-clause-fit c = few_links_fit

pub returns-clause-large_trees : goal.returns-clause-large_trees
returns-clause-large_trees c = only_large_trees_lack

pub returns-clause-eleven_links : goal.returns-clause-eleven_links
returns-clause-eleven_links c = eleven_links_never_lack
