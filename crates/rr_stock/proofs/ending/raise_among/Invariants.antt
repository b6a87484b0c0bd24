use Rattle.std.proofs.Common.{map, take}
use Rattle.rr_desk.specs.Effects.{in_turn}
use Rattle.rr_desk.specs.Desk.{Takes}
use Rattle.rr_stock.specs.Effects.{rises_if_sold_out}
use Rattle.rr_stock.proofs.ending.raise_among.Given as goal

abbrev pub invariant-loop-corp : goal.invariant-loop-corp
invariant-loop-corp l = Takes (in_turn (map (rises_if_sold_out l.chart) (take l.corp-index l.corps))) l.initial.desk l.desk
