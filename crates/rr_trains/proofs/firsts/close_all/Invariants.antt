use Rattle.std.proofs.Common.{map, take}
use Rattle.rr_roster.specs.Company.{privates}
use Rattle.rr_desk.specs.Effects.{in_turn}
use Rattle.rr_desk.specs.Desk.{Takes}
use Rattle.rr_trains.specs.Effects.{closes}
use Rattle.rr_trains.proofs.firsts.close_all.Given as goal

abbrev pub invariant-loop-private : goal.invariant-loop-private
invariant-loop-private l = Takes (in_turn (map closes (take l.private-index privates))) l.initial.desk l.desk
