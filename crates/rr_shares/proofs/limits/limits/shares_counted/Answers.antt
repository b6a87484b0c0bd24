use Rattle.std.proofs.Common.{◌≡◌, ◌∙◌, ◌+◌, ℕ, take, sym, ap, arith}
use Rattle.std.specs.Prelude.{sum_by}
use Rattle.std.proofs.lemmas.List.Sums.{sum_by_more}
use Rattle.rr_roster.specs.declared.company.Corp.TheVariants as C
use Rattle.rr_roster.specs.Company.{corps}
use Rattle.rr_shares.specs.Limits.Holdings.{holdings_in}
use Rattle.rr_shares.specs.Limits.Limits.{counted_of}
use Rattle.rr_shares.proofs.limits.limits.shares_counted.Goals as goal

pub loop-corp-preserved : goal.loop-corp-preserved
loop-corp-preserved c =
    let counts = counted_of (holdings_in c.args.chart.now c.args.position.now) c.args.seat in
    record {
      total = ap (λ (n : ℕ). n + c.counted_of-total.result) c.loop-corp.invariant.total ∙ ap (λ (n : ℕ). sum_by counts (take c.loop-corp.corp-index corps) + n) c.counted_of-total.ensures.value
          ∙ sym (sum_by_more counts corps c.loop-corp.corp-index C.Prr c.loop-corp-test.true);
      bound = omega arith;
    }

pub returns-clause-value : goal.returns-clause-value
returns-clause-value c =
    let all : c.loop-corp.corp-index ≡ 8 = omega arith in
    let counts = counted_of (holdings_in c.args.chart.now c.args.position.now) c.args.seat in
    c.loop-corp.invariant.total ∙ ap (λ (n : ℕ). sum_by counts (take n corps)) all
