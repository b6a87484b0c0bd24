use Rattle.rr_shares.specs.Effects.{moves_lowest_shares}
use Rattle.rr_desk.specs.Desk.{Takes}
use Rattle.rr_shares.proofs.giving.give_lowest_shares.Given as goal

abbrev pub invariant-loop-moved : goal.invariant-loop-moved
invariant-loop-moved l = Takes (moves_lowest_shares l.corp l.moved l.from l.to) l.initial.desk l.desk
