use Rattle.std.proofs.Common.{◌≡◌, [], replicate}
use Rattle.rr_routes.proofs.reachability.noting.Index.with_rows.Given as goal

abbrev pub invariant-loop-row : goal.invariant-loop-row
invariant-loop-row l = l.rows.items ≡ replicate l.row []
