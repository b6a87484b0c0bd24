use Rattle.std.proofs.Common.{arith}
use Rattle.rr_network.proofs.NetworkLemmas.{parts_next, parts_done}
use Rattle.rr_network.proofs.survey.Survey.add_parts.Goals as goal

pub loop-part-preserved : goal.loop-part-preserved
loop-part-preserved c =
    parts_next c.args.self.now c.loop-part.self c.add_part.new.self c.args.hex.now c.args.parts.now c.loop-part.part-index c.loop-part.seen c.in_ok-seen.seen c.part-item.result c.loop-part.invariant c.loop-part-test.true c.part-item.is c.in_ok-seen.ensures.count c.in_ok-seen.ensures.added

pub returns : goal.returns
returns c = parts_done c.args.self.now c.loop-part.self c.args.hex.now c.args.parts.now c.loop-part.part-index c.loop-part.seen c.loop-part.invariant (omega arith)
