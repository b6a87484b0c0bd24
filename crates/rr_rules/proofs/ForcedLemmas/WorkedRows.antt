-- The worked commands compute.
use Rattle.std.specs.Prelude.{refl}
use Rattle.rr_books.specs.Book.{balance, holder, players, train_holder}
use Rattle.rr_books.specs.Shares.{share}
use Rattle.rr_market.specs.Marks.{arrival, first_mark_of, mark_of}
use Rattle.rr_market.specs.Moves.{fallen_by}
use Rattle.rr_shares.specs.Holdings.{heir, percents_after_sale}
use Rattle.rr_shares.specs.Succession.{handover_after_sale}
use Rattle.rr_shares.specs.Effects.{hands_over, moves_lowest_shares, presidency_after_sale, sale_shares}
use Rattle.rr_rounds.specs.Round.{progress}
use Rattle.rr_shares.specs.Limits.Sales.{has_successor}
use Rattle.rr_stock.specs.Effects.{pays_seller}
use Rattle.rr_books.specs.Opening.{opening_trains}
use Rattle.rr_market.specs.Operations.Phases.{is_sold, phase}
use Rattle.rr_trains.specs.Places.{has_train_at, lowest_train, trains_at, trains_held}
use Rattle.rr_trains.specs.Sales.{are_smaller_sold, cheapest}
use Rattle.rr_trains.specs.Effects.{all_close, all_rust, closes, first_train, rusts}
use Rattle.rr_rules.specs.Forced.Effects.{forces, gets_train, raises}
use Rattle.rr_rules.specs.Forced.Sales.{can_raise, share_verdict}
use Rattle.rr_rules.specs.Forced.WorkedNeeds.{WorkedForce}
use Rattle.rr_rules.specs.Forced.WorkedSales.{WorkedBankruptcy, WorkedPresidency, WorkedRaise}

pub worked_force : WorkedForce
unfolding forces gets_train first_train all_rust rusts all_close closes cheapest are_smaller_sold lowest_train has_train_at trains_at trains_held phase is_sold balance holder players train_holder opening_trains
worked_force = record {
  lawful = refl;
  entries = refl;
  left = refl;
  spent = refl;
  too_little = refl;
  not_due = refl;
  alone = refl;
}

pub worked_raise : WorkedRaise
unfolding cheapest are_smaller_sold lowest_train has_train_at trains_at trains_held phase is_sold balance holder players train_holder opening_trains share mark_of first_mark_of arrival fallen_by heir percents_after_sale handover_after_sale hands_over moves_lowest_shares presidency_after_sale sale_shares progress has_successor pays_seller raises can_raise share_verdict
worked_raise = record {
  lawful = refl;
  entries = refl;
  too_many = refl;
  not_needed = refl;
  another_seat = refl;
  no_need = refl;
  full_pool = refl;
}

pub worked_presidency : WorkedPresidency
unfolding cheapest are_smaller_sold lowest_train has_train_at trains_at trains_held phase is_sold balance holder players train_holder opening_trains share mark_of first_mark_of arrival fallen_by heir percents_after_sale handover_after_sale hands_over moves_lowest_shares presidency_after_sale sale_shares progress has_successor pays_seller raises can_raise share_verdict
worked_presidency = record { changes = refl; keeps = refl; too_many = refl; pool_first = refl; shares_first = refl }

pub worked_bankruptcy : WorkedBankruptcy
unfolding cheapest are_smaller_sold lowest_train has_train_at trains_at trains_held phase is_sold balance holder players train_holder opening_trains share mark_of first_mark_of arrival fallen_by heir percents_after_sale handover_after_sale hands_over moves_lowest_shares presidency_after_sale sale_shares progress has_successor pays_seller raises can_raise share_verdict
worked_bankruptcy = record {
  can_sell = refl;
  can_pay = refl;
  bankrupt = refl;
  by_rivals = refl;
  another_seat = refl;
  entries = refl;
}
