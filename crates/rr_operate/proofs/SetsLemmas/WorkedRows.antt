-- The worked sets compute.
use Rattle.std.specs.Prelude.{refl}
use Rattle.rr_books.specs.Book.{balance, holder, players, train_holder}
use Rattle.rr_market.specs.Marks.{arrival, mark_of}
use Rattle.rr_market.specs.Order.{order_by}
use Rattle.rr_rounds.specs.Round as stock
use Rattle.rr_desk.specs.Incomes.{pay_incomes_of, pays_income}
use Rattle.rr_desk.specs.Layout.Layout.{stations}
use Rattle.rr_market.specs.Operations.Phases.{is_sold, phase}
use Rattle.rr_market.specs.Operations.Progress.{progress}
use Rattle.rr_market.specs.Operations.Due.{as_turn_began, due}
use Rattle.rr_operate.specs.Sets.Rounds.{begins_round, ends_set, passes_round}
use Rattle.rr_operate.specs.Sets.Tokens.{places_first_token, places_first_token_of}
use Rattle.rr_operate.specs.Sets.WorkedSets.{WorkedSets, WorkedTokens}

pub worked_sets : WorkedSets
unfolding passes_round begins_round ends_set pays_income pay_incomes_of holder players progress due as_turn_began phase is_sold balance train_holder order_by mark_of arrival stock.progress
worked_sets = record {
  second = refl;
  stock = refl;
  no_more = refl;
  due = refl;
  next = refl;
  over = refl;
}

pub worked_tokens : WorkedTokens
unfolding places_first_token places_first_token_of stations progress due as_turn_began phase is_sold balance train_holder order_by mark_of arrival stock.progress
worked_tokens = record {
  first = refl;
  once = refl;
  homeless = refl;
  nyc = refl;
}
