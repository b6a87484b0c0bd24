-- The worked turns compute.
use Rattle.std.specs.Prelude.{◌≡◌, true, false, refl}
use Rattle.std.proofs.Common.{inl}
use Rattle.rr_books.specs.Book.{balance, holder, players, train_holder}
use Rattle.rr_market.specs.Marks.{arrival, mark_of}
use Rattle.rr_market.specs.Order.{order_by}
use Rattle.rr_rounds.specs.Round as stock
use Rattle.rr_desk.specs.Incomes.{pay_incomes_of, pays_income}
use Rattle.rr_desk.specs.Layout.Layout.{stations}
use Rattle.rr_market.specs.Operations.Phases.{is_sold, phase}
use Rattle.rr_market.specs.Operations.Progress.{progress}
use Rattle.rr_market.specs.Operations.Due.{as_turn_began, due}
use Rattle.rr_trains.specs.Places.{has_train_at, trains_at, trains_held}
use Rattle.rr_trains.specs.Depot.Over.{is_any_over_limit}
use Rattle.rr_trains.specs.Depot.Rules.{discard_verdict}
use Rattle.rr_operate.specs.Sets.Rounds.{begins_round, ends_set, passes_round, passes_rounds}
use Rattle.rr_operate.specs.Sets.Tokens.{places_first_token, places_first_token_of}
use Rattle.rr_operate.specs.Sets.Following.{goes_on_in_operating_round}
use Rattle.rr_operate.specs.Order.{step_verdict, verdict_at}
use Rattle.rr_operate.specs.Rows.{could_buy_first}
use Rattle.rr_operate.specs.Effects.{ends_turn, runs_best}
use Rattle.rr_operate.specs.WorkedTurn.{WorkedOrder, WorkedRun, WorkedTurnEnd}

pub worked_order : WorkedOrder
unfolding verdict_at step_verdict is_any_over_limit discard_verdict has_train_at trains_at trains_held progress due as_turn_began phase is_sold balance holder players train_holder order_by mark_of arrival stock.progress
worked_order = record {
  over = refl;
  given_up = refl;
  within = refl;
  step = refl;
  turn = refl;
  unpaid = refl;
  paid = refl;
}

untrue : false ≡ true → ⊥
untrue e = cc

pub worked_turn_end : WorkedTurnEnd
unfolding verdict_at step_verdict is_any_over_limit could_buy_first has_train_at trains_at trains_held ends_turn goes_on_in_operating_round passes_rounds passes_round begins_round ends_set places_first_token places_first_token_of stations pays_income pay_incomes_of progress due as_turn_began phase is_sold balance holder players train_holder order_by mark_of arrival stock.progress
worked_turn_end = record {
  lawful = inl (λ h. untrue h.0, refl);
  pool_alone = refl;
  nowhere = refl;
  entries = refl;
  revenue = refl;
}

pub worked_run : WorkedRun
unfolding runs_best
worked_run = record { alone = refl; best = refl }
