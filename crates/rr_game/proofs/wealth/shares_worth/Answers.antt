use Rattle.std.proofs.Common.{◌≡◌, ◌∙◌, ◌+◌, ℕ, take, sym, ap, arith}
use Rattle.std.specs.Prelude.{sum_by}
use Rattle.std.proofs.lemmas.List.Sums.{sum_by_more}
use Rattle.rr_roster.specs.declared.company.Corp.{Corp}
use Rattle.rr_roster.specs.Company.{corps}
use Rattle.rr_game.specs.Queries.{assets_in, shares_value}
use Rattle.rr_game.proofs.wealth.shares_worth.Goals as goal

pub loop-corp-preserved : goal.loop-corp-preserved
loop-corp-preserved c =
    let values = shares_value (assets_in c.args.kit.now.chart c.args.position.now) c.args.seat in
    record {
      total = ap (λ (n : ℕ). n + c.shares_value-total.result) c.loop-corp.invariant.total ∙ ap (λ (n : ℕ). sum_by values (take c.loop-corp.corp-index corps) + n) c.shares_value-total.ensures.value
          ∙ sym (sum_by_more values corps c.loop-corp.corp-index Corp.Prr c.loop-corp-test.true);
      bound = omega arith;
    }

pub returns-clause-value : goal.returns-clause-value
returns-clause-value c =
    let all : c.loop-corp.corp-index ≡ 8 = omega arith in
    let values = shares_value (assets_in c.args.kit.now.chart c.args.position.now) c.args.seat in
    c.loop-corp.invariant.total ∙ ap (λ (n : ℕ). sum_by values (take n corps)) all
