use Rattle.std.proofs.Common.{◌≡◌, ◌∙◌, ℕ, List, ap, arith, length, map, subst, take}
use Rattle.std.proofs.Math.Seq.{take-length}
use Rattle.rr_roster.specs.declared.company.Corp.{Corp}
use Rattle.rr_desk.specs.Effects.{in_turn}
use Rattle.rr_desk.specs.Desk.{Takes}
use Rattle.rr_desk.proofs.Taking.{takes_next}
use Rattle.rr_stock.specs.Effects.{rises_among, rises_if_sold_out}
use Rattle.rr_stock.proofs.ending.raise_among.Goals as goal

pub loop-corp-preserved : goal.loop-corp-preserved
loop-corp-preserved c =
    takes_next (rises_if_sold_out c.args.chart.now) c.args.corps.now c.loop-corp.corp-index Corp.Prr c.args.desk.now c.loop-corp.desk c.raise_if_sold_out.new.desk
    c.loop-corp-test.true c.loop-corp.invariant c.in_ok-raise_if_sold_out.ensures.takes

pub returns-clause-takes : goal.returns-clause-takes
unfolding rises_among
returns-clause-takes c =
    let all : c.loop-corp.corp-index ≡ length c.args.corps.now = omega arith in
    let So : List Corp → Type 0 = λ cs. Takes (in_turn (map (rises_if_sold_out c.args.chart.now) cs)) c.args.desk.now c.loop-corp.desk in
    subst So (ap (λ (n : ℕ). take n c.args.corps.now) all ∙ take-length c.args.corps.now) c.loop-corp.invariant
