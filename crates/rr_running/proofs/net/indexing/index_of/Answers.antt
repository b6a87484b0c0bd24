use Rattle.std.proofs.Common.{length}
use Rattle.rr_running.proofs.NetLemmas.IndexLemmas.{index_first, index_more}
use Rattle.rr_running.proofs.net.indexing.index_of.Goals as goal

pub loop-place-init : goal.loop-place-init
loop-place-init c = index_first (length c.args.keys.now) c.in_ok-index.index c.in_ok-index.ensures

pub loop-place-preserved : goal.loop-place-preserved
loop-place-preserved c =
    index_more c.args.keys.now c.loop-place.place c.loop-place.index c.note.new.self c.loop-place-test.true c.loop-place.invariant c.in_ok-note.ensures.ok
