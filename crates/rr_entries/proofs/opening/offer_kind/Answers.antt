use Rattle.std.proofs.Common.{◌+◌, arith}
use Rattle.rr_entries.specs.Opening.{train_offered}
use Rattle.rr_entries.proofs.OpeningLemmas.{range_more}
use Rattle.rr_entries.proofs.opening.offer_kind.Goals as goal

pub loop-before-preserved : goal.loop-before-preserved
loop-before-preserved c =
    range_more (train_offered c.args.kind) 1 c.loop-before.before (c.loop-before.before + 1) c.args.entries.now c.loop-before.entries c.push.new.self (omega arith) c.loop-before.invariant
    c.in_ok-push.ensures.ok
