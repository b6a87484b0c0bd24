use Rattle.std.proofs.Common.{◌≡◌, ◌++◌, map}
use Rattle.std.specs.List.{range_with_len}
use Rattle.rr_entries.specs.Opening.{train_offered}
use Rattle.rr_entries.proofs.opening.offer_kind.Given as goal

abbrev pub invariant-loop-before : goal.invariant-loop-before
invariant-loop-before l = l.entries ≡ l.fn.entries ++ map (train_offered l.kind) (range_with_len 1 l.before)
