use Rattle.std.proofs.Common.{◌≡◌, ◌+◌, ◌++◌, length, map}
use Rattle.std.specs.Iterator.Adapters.{zip_first, zip_second}
use Rattle.std.specs.Slice.Iter.{iter_rest}
use Rattle.std.specs.Vec.Iter.{into_iter_items}
use Rattle.rr_checkpoint.specs.Plan.Standing.{standing_chains}
use Rattle.rr_log.specs.Opening.Opened.{told_as, told_by}
use Rattle.rr_reading.specs.Chains.{held}
use Rattle.rr_log.proofs.opening.standing.standing_snapshots.Given as goal

abbrev pub invariant-loop-entry : goal.invariant-loop-entry
invariant-loop-entry l =
    record {
      chains : standing_chains l.standing.items ++ map held (into_iter_items (zip_second l.entry-iterator)) ≡ map held l.fn.chains.items;
      entries : map told_as l.standing.items ++ map told_by (iter_rest (zip_first l.entry-iterator)) ≡ map told_by l.entries;
      counted : length l.standing.items + length (iter_rest (zip_first l.entry-iterator)) ≡ length l.entries;
    }
