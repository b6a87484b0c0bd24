use Rattle.std.specs.Prelude.{refl}
use Rattle.rr_books.specs.Book.{holder, train_holder}
use Rattle.rr_books.specs.Opening.{opening_trains}
use Rattle.rr_market.specs.Operations.Phases.{is_sold, phase}
use Rattle.rr_trains.specs.Places.{has_train_at, lowest_train, trains_at, trains_held}
use Rattle.rr_trains.specs.Sales.{are_smaller_sold, cheapest}
use Rattle.rr_trains.specs.Effects.{all_close, all_rust, closes, first_train, rusts}
use Rattle.rr_trains.proofs.laws.worked_first_five.Goals as goal

pub returns : goal.returns
unfolding holder train_holder opening_trains has_train_at lowest_train trains_at trains_held is_sold phase are_smaller_sold cheapest all_close all_rust closes first_train rusts
returns c = record { first = refl; later = refl; of_another = refl }
