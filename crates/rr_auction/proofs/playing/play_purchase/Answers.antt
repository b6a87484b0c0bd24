use Rattle.std.proofs.Common.{Option, [], ◌∷◌, ap}
use Rattle.rr_roster.specs.declared.company.Private.{Private}
use Rattle.rr_books.specs.declared.acts.Act.TheVariants as A
use Rattle.rr_books.specs.declared.entries.Entry.TheVariants as E
use Rattle.rr_books.specs.declared.entries.Marker.TheVariants as M
use Rattle.rr_books.specs.Book.{holder}
use Rattle.rr_desk.specs.Effects.{adds, in_turn}
use Rattle.rr_rounds.specs.Bids.Progress.{progress}
use Rattle.rr_rounds.specs.Bids.Unsold.{cheapest}
use Rattle.rr_desk.proofs.Taking.{shown, takes_nothing, takes_same}
use Rattle.rr_auction.specs.Effects.{purchase_of, sale, settle}
use Rattle.rr_auction.proofs.WrittenOut.{buys_for_sale}
use Rattle.rr_auction.proofs.playing.play_purchase.Goals as goal

pub returns-in_ok-buy_for-in-Some-clause-takes : goal.returns-in_ok-buy_for-in-Some-clause-takes
returns-in_ok-buy_for-in-Some-clause-takes c =
    let s = c.args.seat in
    let p = c.in-Some.private in
    takes_same (in_turn (adds (E.Step (M.Act (A.BuyPrivate s))) ∷ sale s p c.cost-amount.result ∷ settle ∷ []))
    (λ book. purchase_of c.args.roster.now s (progress book).falls (cheapest (holder book)) book) c.args.desk.now c.buy_for.new.desk
    (λ book h.
    buys_for_sale c.args.roster.now s p c.cost-amount.result book
    (c.in-Some.ensures book (shown c.position.ensures h))
    (c.cost-amount.ensures.value book (shown c.position-in-Some.ensures h)))
    c.in_ok-buy_for-in-Some.ensures.takes

pub returns-in-None-clause-takes : goal.returns-in-None-clause-takes
returns-in-None-clause-takes c =
    let s = c.args.seat in
    takes_same (in_turn []) (λ book. purchase_of c.args.roster.now s (progress book).falls (cheapest (holder book)) book) c.args.desk.now c.args.desk.now
    (λ book h. ap (λ (o : Option Private). purchase_of c.args.roster.now s (progress book).falls o book) (c.in-None.ensures book (shown c.position.ensures h)))
    (takes_nothing c.args.desk.now)
