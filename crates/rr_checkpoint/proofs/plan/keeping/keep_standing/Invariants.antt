use Rattle.std.proofs.Common.{◌≡◌, map, take}
use Rattle.rr_checkpoint.specs.Writer.{free_of}
use Rattle.rr_images.specs.Holding.{pages_of}
use Rattle.rr_pages.specs.FreePages.{coming_of}
use Rattle.rr_pages.specs.Sets.{all_marked}
use Rattle.rr_checkpoint.specs.Plan.Snapshots.{snapshot_of}
use Rattle.rr_checkpoint.specs.Plan.Standing.{kept_snapshots, left_behind, standing_chains}
use Rattle.rr_checkpoint.specs.Plan.Writing.{OnlyTakes}
use Rattle.rr_reading.specs.Worlds.Spelling.{worlds}
use Rattle.rr_checkpoint.proofs.plan.keeping.keep_standing.Given as goal

abbrev pub invariant-loop-snapshot : goal.invariant-loop-snapshot
invariant-loop-snapshot g l =
    record {
      coming : coming_of (free_of l.writer) ≡ all_marked (coming_of (free_of l.fn.writer)) (pages_of (standing_chains (kept_snapshots l.fn.standing (map snapshot_of (take l.snapshot-index l.snapshots)))));
      left : l.rest ≡ left_behind l.fn.standing (map snapshot_of (take l.snapshot-index l.snapshots));
      only : OnlyTakes (worlds g.R.Rules.rules) l.fn.writer l.writer;
    }
