use Rattle.std.proofs.Common.{◌≡◌, take}
use Rattle.std.specs.Prelude.{fold, None}
use Rattle.rr_books.specs.State.{train_place_of}
use Rattle.rr_trains.specs.Sales.{better, every_offer}
use Rattle.rr_trains.proofs.prices.cheapest_shown.Given as goal

abbrev pub invariant-loop-offer : goal.invariant-loop-offer
invariant-loop-offer l = l.best ≡ fold (better (train_place_of l.books) l.roster) None (take l.offer-index every_offer)
