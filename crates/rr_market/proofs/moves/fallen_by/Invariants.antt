use Rattle.std.proofs.Common.{◌≡◌}
use Rattle.rr_market.specs.Moves.{fallen_by}
use Rattle.rr_market.proofs.moves.fallen_by.Given as goal

abbrev pub invariant-loop-row : goal.invariant-loop-row
invariant-loop-row l = l.lower ≡ fallen_by l.chart l._row l.fn.cell
