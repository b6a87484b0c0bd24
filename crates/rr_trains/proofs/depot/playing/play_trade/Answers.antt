use Rattle.rr_trains.proofs.DepotLemmas.Rows.{takes_trade}
use Rattle.rr_trains.proofs.DepotLemmas.Standing.{lent}
use Rattle.rr_trains.proofs.depot.playing.play_trade.Goals as goal

pub returns-clause-takes : goal.returns-clause-takes
returns-clause-takes c =
    takes_trade c.args.roster.now c.args.corp c.args.kind c.trade_price-amount.result c.of_bank-purchase.result
    c.args.desk.now c.push.new.self c.give_lowest_train.new.desk c.get_train.new.desk c.trade_price-amount.ensures.value
    (λ book h. c.of_bank-purchase.ensures.value book (lent c.books.ensures h.books))
    c.in_ok-push.ensures.takes c.in_ok-give_lowest_train.ensures.takes c.in_ok-get_train.ensures.takes
