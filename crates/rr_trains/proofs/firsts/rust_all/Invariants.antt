use Rattle.std.proofs.Common.{map, take}
use Rattle.rr_market.specs.Operations.Phases.{train_numbers}
use Rattle.rr_desk.specs.Effects.{in_turn}
use Rattle.rr_desk.specs.Desk.{Takes}
use Rattle.rr_trains.specs.Effects.{rusts}
use Rattle.rr_trains.proofs.firsts.rust_all.Given as goal

abbrev pub invariant-loop-number : goal.invariant-loop-number
invariant-loop-number l = Takes (in_turn (map (rusts l.kind) (take l.number-index train_numbers))) l.initial.desk l.desk
