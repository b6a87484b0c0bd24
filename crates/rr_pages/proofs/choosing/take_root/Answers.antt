use Rattle.std.proofs.Common.{ℕ, ◌∙◌}
use Rattle.std.proofs.lemmas.Result.{err_from_is_err_and}
use Rattle.rr_pages.proofs.ChoosingLemmas.{chooses_nothing, judged_counts}
use Rattle.rr_pages.proofs.choosing.take_root.Goals as goal

pub returns-in_err-first-clause-chosen : goal.returns-in_err-first-clause-chosen
returns-in_err-first-clause-chosen g c = λ honest.
    let p = err_from_is_err_and c.from_residual.result c.from_residual.ensures.1 in
    rw (p.1, p.2) (chooses_nothing ℕ _ _ c.in_err-first.ensures.only)

pub returns-in_err-second-clause-chosen : goal.returns-in_err-second-clause-chosen
returns-in_err-second-clause-chosen g c = λ honest.
    let p = err_from_is_err_and c.from_residual-in_err-second.result c.from_residual-in_err-second.ensures.1 in
    rw (p.1, p.2) (chooses_nothing ℕ _ _ c.in_err-second.ensures.only)

pub returns-in_err-taken-clause-fault : goal.returns-in_err-taken-clause-fault
returns-in_err-taken-clause-fault g c =
    let p = err_from_is_err_and c.from_residual-in_err-taken.result c.from_residual-in_err-taken.ensures.1 in
    rw (p.1, p.2) (judged_counts ℕ ℕ _ _ _ c.in_err-taken.ensures.judged (c.in_ok-second.ensures.fault ∙ c.in_ok-first.ensures.fault))
