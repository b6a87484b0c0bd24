use Rattle.std.specs.Prelude.{◌≡◌, ℕ, List, None, MatchResult}
use Rattle.std.proofs.Common.{subst}
use Rattle.rr_books.specs.declared.acts.Act.{Act}
use Rattle.rr_books.specs.declared.acts.Act.TheVariants as A
use Rattle.rr_operate.specs.Effects.{revenue_after}
use Rattle.rr_operate.specs.Rows.{IsVerdictOfRow, MayJudgeRow}
use Rattle.rr_operate.proofs.judging.judge_row.Goals as goal

pub returns-in-RunBest-clause-verdict : goal.returns-in-RunBest-clause-verdict
returns-in-RunBest-clause-verdict c book h =
    let kit = c.args.kit.now in
    let corp = c.in-RunBest.corp in
    let Judged : Act → Type 0 = λ act. MatchResult c.judge_best_sheet.result
    (λ next. IsVerdictOfRow kit book act None × (next ≡ revenue_after kit book c.args.revenue act))
    (λ fault. MayJudgeRow kit book act fault) in
    rw c.in-RunBest.is
    (subst (λ (w : List ℕ). Judged (A.RunBest corp w c.in-RunBest.certificate)) c.as_bytes-in-RunBest.ensures
    (subst (λ (t : List ℕ). Judged (A.RunBest corp c.as_bytes-in-RunBest.result.now t)) c.as_bytes-in-RunBest-2.ensures (c.judge_best_sheet.ensures.verdict book h)))

pub returns-in-Run-clause-verdict : goal.returns-in-Run-clause-verdict
returns-in-Run-clause-verdict c book h =
    let kit = c.args.kit.now in
    let corp = c.in-Run.corp in
    let Judged : Act → Type 0 = λ act. MatchResult c.judge_sheet.result
    (λ next. IsVerdictOfRow kit book act None × (next ≡ revenue_after kit book c.args.revenue act))
    (λ fault. MayJudgeRow kit book act fault) in
    rw c.in-Run.is
    (subst (λ (w : List ℕ). Judged (A.Run corp w)) c.as_bytes.ensures (c.judge_sheet.ensures.verdict book h))
