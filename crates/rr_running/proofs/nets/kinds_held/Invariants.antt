use Rattle.std.proofs.Common.{◌≡◌, ◌*◌, ◌≤◌, take, vec_len}
use Rattle.std.specs.List.{flat_map}
use Rattle.rr_roster.specs.Company.{kinds}
use Rattle.rr_books.specs.State.{train_place_of}
use Rattle.rr_running.specs.Running.{of_kind}
use Rattle.rr_running.proofs.nets.kinds_held.Given as goal

abbrev pub invariant-loop-kind : goal.invariant-loop-kind
invariant-loop-kind l = record {
  items : l.held.items ≡ flat_map (of_kind (train_place_of l.books) l.corp) (take l.kind-index kinds);
  bound : vec_len l.held ≤ 20 * l.kind-index;
}
