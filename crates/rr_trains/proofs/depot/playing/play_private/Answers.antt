use Rattle.rr_trains.proofs.DepotLemmas.Rows.{takes_sale}
use Rattle.rr_trains.proofs.DepotLemmas.Standing.{lent}
use Rattle.rr_trains.proofs.depot.playing.play_private.Goals as goal

pub returns-clause-takes : goal.returns-clause-takes
returns-clause-takes c =
    takes_sale c.args.corp c.args.private c.args.price c.owner-player.result
    c.args.desk.now c.push.new.self c.push-2.new.self c.pay_player.new.desk
    (λ book h. c.owner-player.ensures.book book (lent c.books.ensures h.books))
    c.in_ok-push.ensures.takes c.in_ok-push-2.ensures.takes c.in_ok-pay_player.ensures.takes
