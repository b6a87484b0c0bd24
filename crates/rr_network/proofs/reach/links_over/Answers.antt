use Rattle.std.proofs.Common.{◌+◌, ◌<◌, length, arith}
use Rattle.rr_network.proofs.OverLemmas.{item_within, over_next}
use Rattle.rr_network.proofs.reach.links_over.Goals as goal

pub index_mut-requires : goal.index_mut-requires
index_mut-requires c =
    let within : c.step-item.result.number < length c.args.links.now + 1 =
    item_within c.args.links.now c.args.steps.now c.loop-step.step-index c.step-item.result c.requires c.loop-step-test.true c.step-item.is in
    omega (arith, within, c.loop-step.invariant.as_long, c.loop-step.marks.ok.0)

pub loop-step-preserved : goal.loop-step-preserved
loop-step-preserved c =
    let within : c.step-item.result.number < length c.args.links.now + 1 =
    item_within c.args.links.now c.args.steps.now c.loop-step.step-index c.step-item.result c.requires c.loop-step-test.true c.step-item.is in
    over_next c.args.steps.now c.loop-step.step-index (length c.args.links.now + 1) c.loop-step.marks.items c.step-item.result c.loop-step-test.true c.step-item.is c.loop-step.invariant
    (omega (arith, within, c.loop-step.invariant.as_long))
