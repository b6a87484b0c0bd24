use Rattle.std.proofs.Common.{◌≡◌, ◌∙◌, ◌+◌, ℕ, take, sym, ap, arith}
use Rattle.std.specs.Prelude.{sum_by}
use Rattle.std.proofs.lemmas.List.Sums.{sum_by_more}
use Rattle.rr_roster.specs.declared.company.Private.{Private}
use Rattle.rr_roster.specs.Company.{privates}
use Rattle.rr_game.specs.Queries.{assets_in, private_value}
use Rattle.rr_game.proofs.wealth.privates_worth.Goals as goal

pub loop-private-preserved : goal.loop-private-preserved
loop-private-preserved c =
    let values = private_value c.args.kit.now.roster (assets_in c.args.kit.now.chart c.args.position.now) c.args.seat in
    record {
      total = ap (λ (n : ℕ). n + c.private_value-total.result) c.loop-private.invariant.total ∙ ap (λ (n : ℕ). sum_by values (take c.loop-private.private-index privates) + n) c.private_value-total.ensures.value
          ∙ sym (sum_by_more values privates c.loop-private.private-index Private.Sv c.loop-private-test.true);
      bound = omega arith;
    }

pub returns-clause-value : goal.returns-clause-value
returns-clause-value c =
    let all : c.loop-private.private-index ≡ 6 = omega arith in
    let values = private_value c.args.kit.now.roster (assets_in c.args.kit.now.chart c.args.position.now) c.args.seat in
    c.loop-private.invariant.total ∙ ap (λ (n : ℕ). sum_by values (take n privates)) all
