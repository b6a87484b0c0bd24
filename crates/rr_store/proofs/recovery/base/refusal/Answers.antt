use Rattle.rr_store.proofs.recovery.base.refusal.Goals as goal

pub returns-in-Err-clause-told : goal.returns-in-Err-clause-told
returns-in-Err-clause-told g c = λ honest directory texts refused. c.in-Err.ensures.refused honest texts
