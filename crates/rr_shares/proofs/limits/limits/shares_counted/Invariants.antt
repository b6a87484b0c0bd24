use Rattle.std.proofs.Common.{◌≡◌, ◌*◌, ◌≤◌, take}
use Rattle.std.specs.Prelude.{sum_by}
use Rattle.rr_roster.specs.Company.{corps}
use Rattle.rr_shares.specs.Limits.Holdings.{holdings_in}
use Rattle.rr_shares.specs.Limits.Limits.{counted_of}
use Rattle.rr_shares.proofs.limits.limits.shares_counted.Given as goal

abbrev pub invariant-loop-corp : goal.invariant-loop-corp
invariant-loop-corp l = record {
  total : l.total ≡ sum_by (counted_of (holdings_in l.chart l.position) l.seat) (take l.corp-index corps);
  bound : l.total ≤ 9 * l.corp-index;
}
