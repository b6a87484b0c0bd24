use Rattle.rr_store.proofs.FewLeft.{bare_are_played_once as bare, few_are_left as few, lent_roots_are_named as named}
use Rattle.rr_store.proofs.laws.few_are_left.Goals as goal

pub returns-clause-few : goal.returns-clause-few
returns-clause-few c = few

pub returns-clause-named : goal.returns-clause-named
returns-clause-named c = named

pub returns-clause-bare : goal.returns-clause-bare
returns-clause-bare c = bare
