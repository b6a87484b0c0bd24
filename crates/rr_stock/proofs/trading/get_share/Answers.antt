use Rattle.std.proofs.Common.{subst}
use Rattle.rr_books.specs.declared.parties.Place.{Place}
use Rattle.rr_books.specs.declared.parties.Place.TheVariants as L
use Rattle.rr_desk.specs.Effects.{moves_lowest_share}
use Rattle.rr_desk.specs.Desk.{Takes}
use Rattle.rr_stock.specs.Effects.{gets_share, pays_bank}
use Rattle.rr_stock.specs.Rules.{place_of_source}
use Rattle.rr_stock.proofs.Trades.{takes_two}
use Rattle.rr_stock.proofs.trading.get_share.Goals as goal

pub returns-clause-takes : goal.returns-clause-takes
unfolding gets_share
returns-clause-takes c =
    let seat = L.Seat c.args.seat in
    let given = c.give_lowest_share.new.desk in
    let So : Place → Type 0 = λ p. Takes (moves_lowest_share c.args.corp p seat) c.args.desk.now given in
    takes_two (moves_lowest_share c.args.corp (place_of_source c.args.source) seat) (pays_bank c.args.seat c.args.price) c.args.desk.now given c.pay_bank.new.desk
    (subst So c.place_of_source.ensures c.in_ok-give_lowest_share.ensures.takes) c.in_ok-pay_bank.ensures.takes
