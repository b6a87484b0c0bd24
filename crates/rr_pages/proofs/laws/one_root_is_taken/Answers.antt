use Rattle.rr_pages.proofs.ChoosingLemmas.{one_taken, taken_store, taken_good}
use Rattle.rr_pages.proofs.laws.one_root_is_taken.Goals as goal

pub returns : goal.returns
returns c = record { one = one_taken; no_store = taken_store; no_bad_field = taken_good }
