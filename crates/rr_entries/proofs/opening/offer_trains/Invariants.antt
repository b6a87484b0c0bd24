use Rattle.std.proofs.Common.{◌≡◌, ◌++◌, map, take}
use Rattle.std.specs.List.{flat_map, range_with_len}
use Rattle.rr_roster.specs.Terms.{count_of}
use Rattle.rr_books.specs.Opening.{kinds}
use Rattle.rr_entries.specs.Opening.{train_offered}
use Rattle.rr_entries.proofs.opening.offer_trains.Given as goal

abbrev pub invariant-loop-kind : goal.invariant-loop-kind
invariant-loop-kind l = l.entries ≡ l.fn.entries ++ flat_map (λ k. map (train_offered k) (range_with_len 1 (count_of l.roster k))) (take l.kind-index kinds)
