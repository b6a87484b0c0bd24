use Rattle.std.proofs.Common.{◌≡◌, ℕ, arith, map, take, subst}
use Rattle.rr_roster.specs.declared.company.Private.TheVariants as P
use Rattle.rr_books.specs.Shares.{privates}
use Rattle.rr_desk.specs.Effects.{in_turn}
use Rattle.rr_desk.specs.Incomes.{pay_incomes_of, pays_income}
use Rattle.rr_desk.specs.Desk.{Takes}
use Rattle.rr_desk.proofs.Taking.{takes_next}
use Rattle.rr_desk.proofs.incomes.pay_incomes.Goals as goal

pub loop-private-preserved : goal.loop-private-preserved
loop-private-preserved c =
    takes_next (pays_income c.args.roster.now) privates c.loop-private.private-index P.Sv c.args.desk.now c.loop-private.desk c.pay_income.new.desk c.loop-private-test.true
    c.loop-private.invariant c.in_ok-pay_income.ensures.takes

pub returns-clause-takes : goal.returns-clause-takes
unfolding pay_incomes_of
returns-clause-takes c =
    let six : c.loop-private.private-index ≡ 6 = omega arith in
    let So : ℕ → Type 0 = λ n. Takes (in_turn (map (pays_income c.args.roster.now) (take n privates))) c.args.desk.now c.loop-private.desk in
    subst So six c.loop-private.invariant
