use Rattle.std.proofs.Common.{◌≡◌, map, take}
use Rattle.rr_checkpoint.specs.Writer.{free_of}
use Rattle.rr_pages.specs.FreePages.{present_of, coming_of}
use Rattle.rr_checkpoint.specs.Plan.Laying.{AreSnapshotsPlaced}
use Rattle.rr_checkpoint.specs.Plan.Snapshots.{snapshot_of}
use Rattle.rr_checkpoint.specs.Plan.Standing.{left_behind, places_of}
use Rattle.rr_checkpoint.specs.Plan.Writing.{OnlyTakes}
use Rattle.rr_reading.specs.Worlds.Spelling.{worlds}
use Rattle.rr_checkpoint.proofs.plan.laying.place_snapshots.Given as goal

abbrev pub invariant-loop-snapshot : goal.invariant-loop-snapshot
invariant-loop-snapshot g l =
    record {
      placed : AreSnapshotsPlaced (present_of (free_of l.fn.writer)) (coming_of (free_of l.fn.writer)) (coming_of (free_of l.writer)) l.fn.fresh.items l.fresh.items (places_of l.fn.standing (map snapshot_of (take l.snapshot-index l.snapshots))) (map snapshot_of (take l.snapshot-index l.snapshots)) l.placed.items;
      left : l.rest ≡ left_behind l.fn.standing (map snapshot_of (take l.snapshot-index l.snapshots));
      only : OnlyTakes (worlds g.R.Rules.rules) l.fn.writer l.writer;
    }
