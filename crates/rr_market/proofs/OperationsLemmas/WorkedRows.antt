-- The worked rounds compute.
use Rattle.std.specs.Prelude.{refl}
use Rattle.rr_books.specs.Book.{balance, train_holder}
use Rattle.rr_market.specs.Marks.{arrival, mark_of}
use Rattle.rr_market.specs.Order.{order_by}
use Rattle.rr_rounds.specs.Round as stock
use Rattle.rr_market.specs.Operations.Phases.{is_sold, phase}
use Rattle.rr_market.specs.Operations.Progress.{progress, sheet_run}
use Rattle.rr_market.specs.Operations.Due.{as_turn_began, due}
use Rattle.rr_market.specs.Operations.WorkedRound.{WorkedRound}

pub worked_round : WorkedRound
unfolding progress sheet_run due as_turn_began phase is_sold balance train_holder order_by mark_of arrival stock.progress
worked_round = record {
  first = refl;
  laying = refl;
  length = refl;
  solvent = refl;
  still_first = refl;
  buying = refl;
  sheet = refl;
  owing = refl;
  second = refl;
  had = refl;
  no_sheet = refl;
  none = refl;
  next_round = refl;
  next_first = refl;
}
