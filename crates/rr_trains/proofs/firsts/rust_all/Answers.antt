use Rattle.rr_market.specs.Operations.Phases.{train_numbers}
use Rattle.rr_trains.specs.Effects.{rusts}
use Rattle.rr_desk.proofs.Taking.{takes_next}
use Rattle.rr_trains.proofs.firsts.rust_all.Goals as goal

pub loop-number-preserved : goal.loop-number-preserved
loop-number-preserved c =
    takes_next (rusts c.args.kind) train_numbers c.loop-number.number-index 0 c.args.desk.now c.loop-number.desk c.rust.new.desk c.loop-number-test.true
    c.loop-number.invariant c.in_ok-rust.ensures.takes
