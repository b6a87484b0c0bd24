use Rattle.std.specs.Prelude.{◌≡◌, Bool, true, false, not, nat_lt, Option, None, Some, if◌then◌else◌}
use Rattle.std.proofs.lemmas.Result.{err_from_is_err_and}
use Rattle.rr_books.specs.declared.refusal.Refusal.{Refusal}
use Rattle.rr_books.specs.declared.refusal.Refusal.TheVariants as F
use Rattle.rr_books.specs.Same.{same_seat}
use Rattle.rr_books.specs.State.{cash_of, holder_in}
use Rattle.rr_rounds.specs.Bids.Bids.{least_bid}
use Rattle.rr_auction.specs.Rules.{bidder_due, is_open, spending_verdict, takes_bids}
use Rattle.rr_auction.proofs.judging.judge_bid.Goals as goal

-- who may not pass may not bid, for the same reason
first_two : (a b : Bool) (x y fault : Refusal) (rest : Option Refusal) → (if a then Some x else if b then Some y else None) ≡ Some fault
    → (if a then Some x else if b then Some y else rest) ≡ Some fault
first_two true b x y fault rest h = h
first_two false true x y fault rest h = h
first_two false false x y fault rest h = absurd cc

pub returns-in_err-judge_pass : goal.returns-in_err-judge_pass
returns-in_err-judge_pass c =
    let p = err_from_is_err_and c.from_residual.result c.from_residual.ensures.1 in
    let roster = c.args.roster.now in
    let holder = holder_in c.args.books.now in
    let a = c.args.bidding.now in
    let bid = c.args.bid in
    let least = least_bid roster a.bids bid.private in
    let rest : Option Refusal =
    if not (is_open holder a bid.private) then Some F.NotForSale
    else if nat_lt bid.amount least then Some (F.BidTooLow least)
    else spending_verdict (cash_of c.args.books.now) holder a bid.seat bid.private bid.amount in
    rw (p.1, p.2) (first_two (not (takes_bids roster holder a)) (not (same_seat bid.seat (bidder_due holder a))) F.WrongStep F.NotYourTurn _ rest c.in_err-judge_pass.ensures)
