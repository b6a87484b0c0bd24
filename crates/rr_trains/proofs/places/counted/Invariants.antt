use Rattle.std.proofs.Common.{◌≡◌, ◌*◌, ◌≤◌, take}
use Rattle.std.specs.Prelude.{sum_by}
use Rattle.rr_roster.specs.Company.{kinds}
use Rattle.rr_books.specs.State.{train_place_of}
use Rattle.rr_trains.specs.Places.{trains_at}
use Rattle.rr_trains.proofs.places.counted.Given as goal

abbrev pub invariant-loop-kind : goal.invariant-loop-kind
invariant-loop-kind l = record {
  total : l.total ≡ sum_by (trains_at (train_place_of l.books) l.place) (take l.kind-index kinds);
  bound : l.total ≤ 20 * l.kind-index;
}
