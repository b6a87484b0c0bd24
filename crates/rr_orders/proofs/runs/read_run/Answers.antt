use Rattle.rr_orders.proofs.WrittenLemmas.{best-found, run-alone}
use Rattle.rr_orders.proofs.runs.read_run.Goals as goal

pub returns-in_default-clause-exact : goal.returns-in_default-clause-exact
returns-in_default-clause-exact c =
    run-alone _ _ _ _ _ _ c.in_ok-next.ensures c.in_ok-corp.ensures.exact c.rest-text.ensures c.in_default.ensures c.in_ok-sheet.ensures.exact

pub returns-clause-found : goal.returns-clause-found
returns-clause-found c =
    best-found _ _ _ _ _ c.in-Some.sheet c.in-Some.certificate _ _ c.in_ok-next.ensures c.in_ok-corp.ensures.found c.rest-text.ensures c.in-Some.ensures c.in_ok-sheet-2.ensures.found c.in_ok-certificate.ensures.found
