use Rattle.std.proofs.Common.{map, take}
use Rattle.rr_books.specs.Shares.{privates}
use Rattle.rr_desk.specs.Effects.{in_turn}
use Rattle.rr_desk.specs.Incomes.{pays_income}
use Rattle.rr_desk.specs.Desk.{Takes}
use Rattle.rr_desk.proofs.incomes.pay_incomes.Given as goal

abbrev pub invariant-loop-private : goal.invariant-loop-private
invariant-loop-private l = Takes (in_turn (map (pays_income l.roster) (take l.private-index privates))) l.initial.desk l.desk
