use Rattle.std.specs.Prelude.{refl}
use Rattle.rr_books.specs.Book.{balance, holder, players, train_holder}
use Rattle.rr_books.specs.Opening.{opening_trains}
use Rattle.rr_market.specs.Operations.Phases.{is_sold, phase}
use Rattle.rr_trains.specs.Places.{has_train_at, lowest_train, trains_at, trains_held}
use Rattle.rr_trains.specs.Sales.{are_smaller_sold}
use Rattle.rr_trains.specs.Effects.{all_close, all_rust, closes, first_train, rusts}
use Rattle.rr_trains.specs.Depot.Over.{is_any_over_limit}
use Rattle.rr_trains.specs.Depot.Rules.{deal_verdict, discard_verdict, private_verdict, trade_verdict, train_verdict}
use Rattle.rr_trains.specs.Depot.Effects.{buys_train, buys_train_from, discards_train, gets_train, takes_private, trades_train}
use Rattle.rr_trains.proofs.depot.laws.worked_trade.Goals as goal

pub returns : goal.returns
unfolding holder train_holder balance players opening_trains has_train_at lowest_train trains_at trains_held is_sold phase are_smaller_sold all_close all_rust closes first_train rusts is_any_over_limit train_verdict deal_verdict trade_verdict discard_verdict private_verdict gets_train buys_train buys_train_from trades_train discards_train takes_private
returns c = record { lawful = refl; too_dear = refl; too_small = refl; not_held = refl; entries = refl }
