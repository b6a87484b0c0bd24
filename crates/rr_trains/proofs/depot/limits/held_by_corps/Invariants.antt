use Rattle.std.proofs.Common.{◌≡◌, get_or, take}
use Rattle.std.specs.Prelude.{sum_by}
use Rattle.rr_roster.specs.declared.company.Corp.{Corp}
use Rattle.rr_roster.specs.Company.{corp_index, kinds}
use Rattle.rr_books.specs.declared.parties.Place.TheVariants as L
use Rattle.rr_books.specs.State.{train_place_of}
use Rattle.rr_trains.specs.Places.{trains_at}
use Rattle.rr_trains.proofs.depot.limits.held_by_corps.Given as goal

abbrev pub invariant-loop-kind : goal.invariant-loop-kind
invariant-loop-kind l = (corp : Corp) → get_or l.held (corp_index corp) 0 ≡ sum_by (trains_at (train_place_of l.books) (L.Corp corp)) (take l.kind-index kinds)
