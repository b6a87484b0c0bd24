use Rattle.std.proofs.Common.{◌≡◌, ◌*◌, ◌≤◌, take}
use Rattle.std.specs.Prelude.{sum_by}
use Rattle.rr_roster.specs.Company.{privates}
use Rattle.rr_game.specs.Queries.{assets_in, private_value}
use Rattle.rr_game.proofs.wealth.privates_worth.Given as goal

abbrev pub invariant-loop-private : goal.invariant-loop-private
invariant-loop-private l = record {
  total : l.total ≡ sum_by (private_value l.kit.roster (assets_in l.kit.chart l.position) l.seat) (take l.private-index privates);
  bound : l.total ≤ 500 * l.private-index;
}
