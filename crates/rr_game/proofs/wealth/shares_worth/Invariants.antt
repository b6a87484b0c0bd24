use Rattle.std.proofs.Common.{◌≡◌, ◌*◌, ◌≤◌, take}
use Rattle.std.specs.Prelude.{sum_by}
use Rattle.rr_roster.specs.Company.{corps}
use Rattle.rr_game.specs.Queries.{assets_in, shares_value}
use Rattle.rr_game.proofs.wealth.shares_worth.Given as goal

abbrev pub invariant-loop-corp : goal.invariant-loop-corp
invariant-loop-corp l = record {
  total : l.total ≡ sum_by (shares_value (assets_in l.kit.chart l.position) l.seat) (take l.corp-index corps);
  bound : l.total ≤ 9990 * l.corp-index;
}
