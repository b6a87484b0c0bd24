use Rattle.rr_trains.proofs.DepotLemmas.Rows.{takes_train}
use Rattle.rr_trains.proofs.DepotLemmas.Standing.{lent}
use Rattle.rr_trains.proofs.depot.playing.play_train.Goals as goal

pub returns-clause-takes : goal.returns-clause-takes
returns-clause-takes c =
    takes_train c.args.roster.now c.args.corp c.args.kind c.args.source c.price-amount.result c.of_bank-purchase.result
    c.args.desk.now c.push.new.self c.get_train.new.desk c.price-amount.ensures.value
    (λ book h. c.of_bank-purchase.ensures.value book (lent c.books.ensures h.books)) c.in_ok-push.ensures.takes c.in_ok-get_train.ensures.takes
