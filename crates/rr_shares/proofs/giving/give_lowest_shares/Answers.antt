use Rattle.rr_shares.proofs.Moves.{moves_none, moves_one_more}
use Rattle.rr_shares.proofs.giving.give_lowest_shares.Goals as goal

pub loop-moved-init : goal.loop-moved-init
loop-moved-init c = moves_none c.args.corp c.args.from c.args.to c.args.desk.now

pub loop-moved-preserved : goal.loop-moved-preserved
loop-moved-preserved c =
    moves_one_more c.args.corp c.loop-moved.moved c.args.from c.args.to c.args.desk.now c.loop-moved.desk c.give_lowest_share.new.desk
    c.loop-moved.invariant c.in_ok-give_lowest_share.ensures.takes
