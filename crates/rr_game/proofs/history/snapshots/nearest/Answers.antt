use Rattle.rr_game.proofs.HistoryLemmas.Nearest.{nearest_more}
use Rattle.rr_game.proofs.history.snapshots.nearest.Goals as goal

pub loop-snapshot-preserved : goal.loop-snapshot-preserved
loop-snapshot-preserved c =
    nearest_more c.args.count c.args.snapshots.now c.loop-snapshot.snapshot-index c.snapshot-item.result _ _ c.loop-snapshot-test.true c.snapshot-item.is
    c.nearer-nearest.ensures c.loop-snapshot.invariant
