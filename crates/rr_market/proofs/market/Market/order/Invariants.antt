use Rattle.std.proofs.Common.{◌≡◌, ◌≤◌, [], length, take}
use Rattle.std.specs.Prelude.{fold}
use Rattle.rr_roster.specs.Company.{corps}
use Rattle.rr_market.specs.Order.{ordered_after}
use Rattle.rr_market.specs.State.{cell_in, arrival_in}
use Rattle.rr_market.proofs.market.Market.order.Given as goal

abbrev pub invariant-loop-corp : goal.invariant-loop-corp
invariant-loop-corp l = record {
  order : l.order ≡ fold (ordered_after l.chart (cell_in l.self) (arrival_in l.self)) [] (take l.corp-index corps);
  bound : length l.order ≤ l.corp-index;
}
