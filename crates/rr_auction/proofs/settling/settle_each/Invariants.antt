use Rattle.std.proofs.Common.{map, take}
use Rattle.rr_books.specs.Shares.{privates}
use Rattle.rr_desk.specs.Effects.{in_turn}
use Rattle.rr_desk.specs.Desk.{Takes}
use Rattle.rr_auction.specs.Effects.{settles}
use Rattle.rr_auction.proofs.settling.settle_each.Given as goal

abbrev pub invariant-loop-private : goal.invariant-loop-private
invariant-loop-private l = Takes (in_turn (map settles (take l.private-index privates))) l.initial.desk l.desk
