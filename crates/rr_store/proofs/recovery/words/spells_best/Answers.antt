use Rattle.rr_store.proofs.RecoveryLemmas.FormLemmas.{best_asked, none_best}
use Rattle.rr_store.proofs.recovery.words.spells_best.Goals as goal

pub returns-in-Some : goal.returns-in-Some
returns-in-Some c =
    best_asked c.args.words.now c.in-Some.corp.now c.read_corp.result c.is_some.result c.in-Some.ensures c.read_corp.ensures.exact c.read_corp.ensures.found
    c.is_some.ensures

pub returns-in-None : goal.returns-in-None
returns-in-None c = (λ h. absurd (cc h), λ asked. absurd (none_best c.args.words.now c.in-None.ensures asked))
