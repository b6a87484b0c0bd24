use Rattle.std.proofs.Common.{subst}
use Rattle.std.proofs.lemmas.Result.{err_from_is_err_and}
use Rattle.rr_routes.specs.Net.{Net}
use Rattle.rr_search.specs.BestRun.Worded.{IsBestOn, MayRefuse}
use Rattle.rr_search.proofs.BestRunLemmas.Told.{sheets_never_lack}
use Rattle.rr_search.proofs.best_run.finding.best_run.Goals as goal

pub returns-in_err-run-clause-found : goal.returns-in_err-run-clause-found
returns-in_err-run-clause-found c book h =
    let p = err_from_is_err_and c.from_residual-in_err-run.result c.from_residual-in_err-run.ensures.1 in
    let fault = c.in_err-run.field-0.0 in
    let So : Net → Type 0 = λ net. MayRefuse net c.args.corp c.args.most fault in
    rw (p.1, p.2) (sheets_never_lack c.args.kit.now.board c.args.kit.now.tiles book c.args.corp c.args.most fault
    (subst So (c.in_ok-net.ensures.net book h) c.in_err-run.ensures))

pub returns-clause-found : goal.returns-clause-found
returns-clause-found c book h =
    let So : Net → Type 0 = λ net. IsBestOn net c.args.corp c.in_ok-run.run' in
    let best = subst So (c.in_ok-net.ensures.net book h) (c.in_ok-run.ensures {u = tt}).0 in
    (best.lawful, best.earns)
