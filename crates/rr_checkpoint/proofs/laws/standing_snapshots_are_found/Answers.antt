use Rattle.rr_checkpoint.proofs.PlanLemmas.FoundSnapshots.{finds_all, keeps_all, lays_the_others}
use Rattle.rr_checkpoint.proofs.laws.standing_snapshots_are_found.Goals as goal

pub returns-clause-rise : goal.returns-clause-rise
returns-clause-rise _ = λ transcript. transcript.rising

pub returns-clause-found : goal.returns-clause-found
returns-clause-found _ = finds_all

pub returns-clause-kept : goal.returns-clause-kept
returns-clause-kept _ = keeps_all

pub returns-clause-laid : goal.returns-clause-laid
returns-clause-laid _ = lays_the_others
