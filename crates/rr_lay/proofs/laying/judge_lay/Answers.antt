use Rattle.std.proofs.Common.{◌≡◌, subst}
use Rattle.std.specs.Prelude.{None, Some, ◌⊎◌, MatchResult}
use Rattle.rr_books.specs.declared.refusal.Refusal.TheVariants.{OutOfMemory}
use Rattle.rr_lay.specs.Laying.{IsLayVerdict, first_lay_verdict}
use Rattle.rr_lay.specs.Position.{Position}
use Rattle.rr_lay.proofs.Sights.{seen}
use Rattle.rr_lay.proofs.laying.judge_lay.Goals as goal

pub returns-clause-verdict : goal.returns-clause-verdict
returns-clause-verdict c book h =
    let board = c.args.kit.now.board in
    let tiles = c.args.kit.now.tiles in
    let P : Position → Type 0 = λ now. MatchResult c.judge.result
    (λ _. IsLayVerdict board tiles now c.args.corp c.args.lay.now None)
    (λ fault. ((fault ≡ OutOfMemory) × (first_lay_verdict board tiles now c.args.lay.now ≡ None)) ⊎ IsLayVerdict board tiles now c.args.corp c.args.lay.now (Some fault)) in
    subst P (seen book c.args.position.now h) c.judge.ensures.verdict
