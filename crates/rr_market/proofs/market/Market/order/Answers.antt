use Rattle.std.proofs.Common.{◌≡◌, ◌∙◌, ℕ, List, [], take, get_or, sym, ap, arith}
use Rattle.std.specs.Prelude.{fold}
use Rattle.std.proofs.lemmas.List.Sums.{fold_more}
use Rattle.rr_roster.specs.declared.company.Corp.{Corp}
use Rattle.rr_roster.specs.declared.company.Corp.TheVariants as C
use Rattle.rr_roster.specs.Company.{corps}
use Rattle.rr_market.specs.Order.{ordered_after, order_by}
use Rattle.rr_market.specs.OrderLaws.{order-shown}
use Rattle.rr_market.specs.State.{cell_in, arrival_in}
use Rattle.rr_market.proofs.market.Market.order.Goals as goal

pub loop-corp-preserved : goal.loop-corp-preserved
loop-corp-preserved c =
    let step = ordered_after c.args.chart.now (cell_in c.args.self.now) (arrival_in c.args.self.now) in
    record {
      order = c.put.ensures.order
          ∙ ap (λ (others : List Corp). step others (get_or corps c.loop-corp.corp-index C.Prr)) c.loop-corp.invariant.order
          ∙ sym (fold_more step [] corps c.loop-corp.corp-index C.Prr c.loop-corp-test.true);
      bound = omega arith;
    }

pub returns-clause-shown : goal.returns-clause-shown
unfolding order_by
returns-clause-shown c =
    let all : c.loop-corp.corp-index ≡ 8 = omega arith in
    c.loop-corp.invariant.order ∙ ap (λ (n : ℕ). fold (ordered_after c.args.chart.now (cell_in c.args.self.now) (arrival_in c.args.self.now)) [] (take n corps)) all

pub returns-clause-book : goal.returns-clause-book
returns-clause-book c book h = returns-clause-shown c ∙ order-shown c.args.chart.now book c.args.self.now h
