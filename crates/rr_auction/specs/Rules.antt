-- The rules of the auction, from a table's book alone.
use Rattle.std.specs.Prelude.{ℕ, ◌-◌, ◌*◌, pos, ℤ, ◌-ℤ◌, int_lt, nat_lt, Bool, true, false, not, List, Option, None, Some, is_some, unwrap_or, if◌then◌else◌, ◌&&◌}
use Rattle.rr_roster.specs.declared.company.Private.{Private}
use Rattle.rr_roster.specs.declared.company.Corp.{Corp}
use Rattle.rr_roster.specs.Terms.{Terms, face_of}
use Rattle.rr_roster.specs.Chart.Chart.{Row}
use Rattle.rr_books.specs.declared.parties.Money.{Money}
use Rattle.rr_books.specs.declared.parties.Seat.{Seat}
use Rattle.rr_books.specs.declared.parties.Party.{Party}
use Rattle.rr_books.specs.declared.parties.Party.TheVariants as P
use Rattle.rr_books.specs.declared.acts.Act.{Act}
use Rattle.rr_books.specs.declared.acts.Act.TheVariants as A
use Rattle.rr_books.specs.Book.{Book, balance, holder}
use Rattle.rr_books.specs.Shares.{Holders}
use Rattle.rr_books.specs.Same.{same_seat}
use Rattle.rr_market.specs.Moves.{is_par}
use Rattle.rr_auction.specs.declared.due.Due.{Due}
use Rattle.rr_auction.specs.declared.due.Due.TheVariants as D
use Rattle.rr_books.specs.declared.refusal.Refusal.{Refusal}
use Rattle.rr_books.specs.declared.refusal.Refusal.TheVariants as F
use Rattle.rr_rounds.specs.Bids.Unsold.{cheapest, is_private, is_unsold}
use Rattle.rr_rounds.specs.Bids.Bids.{least_bid, tied_up}
use Rattle.rr_rounds.specs.Bids.Progress.{Progress, progress, raise_due}

-- the money of each party
abbrev pub Accounts : Type 0
Accounts = Party → ℤ

-- what a private costs, once the first one's price has fallen so often by 5
abbrev pub price : Terms → ℕ → Private → ℕ
price roster falls Private.Sv = face_of roster Private.Sv - 5 * falls
price roster falls p = face_of roster p

-- what the auction waits for, by who owes a par, what is for sale, and who is to raise
abbrev pub due_by : Option Seat → Option Private → Option Seat → Progress → Due
due_by (Some owing) for_sale raising a = D.Par owing
due_by None None raising a = D.Stock a.priority
due_by None (Some p) (Some s) a = D.Raise s
due_by None (Some p) None a = D.Turn a.turn

abbrev pub due_in : Holders → Progress → Due
due_in holder a = due_by a.par_due (cheapest holder) (raise_due holder a) a

abbrev pub due : Book → Due
due book = due_in (holder book) (progress book)

-- the turns that have ended: one for each purchase, bid and pass, but a purchase or raise that gets the B&O private
-- ends its turn with the par
abbrev pub turns_in : Progress → ℕ
turns_in a = if is_some a.par_due then a.commands - 1 else a.commands

abbrev pub turns : Book → ℕ
turns book = turns_in (progress book)

-- the cheapest private that isn't sold, with its price
abbrev pub asked_of : Terms → ℕ → Option Private → Option (Private × Money)
asked_of roster falls None = None
asked_of roster falls (Some p) = Some (p, record { 0 = pos (price roster falls p) })

abbrev pub asked_in : Terms → Holders → Progress → Option (Private × Money)
asked_in roster holder a = asked_of roster a.falls (cheapest holder)

abbrev pub asked : Terms → Book → Option (Private × Money)
asked roster book = asked_in roster (holder book) (progress book)

abbrev pub is_turn : Due → Bool
is_turn (D.Turn s) = true
is_turn _ = false

-- the seat's money, and what is left of it without its bids on other privates
abbrev pub cash : Accounts → Seat → ℤ
cash money s = money (P.Seat s)

abbrev pub free_cash : Accounts → Holders → Progress → Seat → Private → ℤ
free_cash money holder a s p = cash money s -ℤ pos (tied_up holder a.bids s p)

-- why a seat can't spend an amount on a private, if it can't
abbrev pub spending_verdict : Accounts → Holders → Progress → Seat → Private → ℕ → Option Refusal
spending_verdict money holder a s p amount =
    if int_lt (cash money s) (pos amount) then Some F.TooLittleCash
    else if int_lt (free_cash money holder a s p) (pos amount) then Some F.CashTiedUp
    else None

-- why a seat can't buy what is for sale, if it can't
abbrev pub price_verdict : Terms → Accounts → Holders → Progress → Seat → Option Private → Option Refusal
price_verdict roster money holder a s None = Some F.WrongStep
price_verdict roster money holder a s (Some p) = spending_verdict money holder a s p (price roster a.falls p)

abbrev pub purchase_verdict : Terms → Accounts → Holders → Progress → Seat → Option Refusal
purchase_verdict roster money holder a s =
    if not (is_turn (due_in holder a)) then Some F.WrongStep
    else if not (same_seat s a.turn) then Some F.NotYourTurn
    else price_verdict roster money holder a s (cheapest holder)

-- bids and passes are taken: a private is for sale, no par is due, and the price isn't 0
abbrev pub is_priced : Terms → ℕ → Option Private → Bool
is_priced roster falls None = false
is_priced roster falls (Some p) = nat_lt 0 (price roster falls p)

abbrev pub takes_bids : Terms → Holders → Progress → Bool
takes_bids roster holder a = not (is_some a.par_due) && is_priced roster a.falls (cheapest holder)

-- the seat that is to bid or pass
abbrev pub bidder_due : Holders → Progress → Seat
bidder_due holder a = unwrap_or (raise_due holder a) a.turn

-- the private can be bid on: the one for which several raise, or else any unsold one but the cheapest
abbrev pub is_open : Holders → Progress → Private → Bool
is_open holder a p =
    if is_some (raise_due holder a) then is_private p (cheapest holder)
    else is_unsold holder p && not (is_private p (cheapest holder))

-- why a bid is refused, if it is
abbrev pub bid_verdict : Terms → Accounts → Holders → Progress → Seat → Private → ℕ → Option Refusal
bid_verdict roster money holder a s p amount =
    if not (takes_bids roster holder a) then Some F.WrongStep
    else if not (same_seat s (bidder_due holder a)) then Some F.NotYourTurn
    else if not (is_open holder a p) then Some F.NotForSale
    else if nat_lt amount (least_bid roster a.bids p) then Some (F.BidTooLow (least_bid roster a.bids p))
    else spending_verdict money holder a s p amount

-- why a pass is refused, if it is
abbrev pub pass_verdict : Terms → Holders → Progress → Seat → Option Refusal
pass_verdict roster holder a s =
    if not (takes_bids roster holder a) then Some F.WrongStep
    else if not (same_seat s (bidder_due holder a)) then Some F.NotYourTurn
    else None

abbrev pub is_bo : Corp → Bool
is_bo Corp.Bo = true
is_bo _ = false

-- why a par is refused, if it is, by the seat that owes one
abbrev pub par_verdict : List Row → Option Seat → Seat → Corp → ℕ → Option Refusal
par_verdict rows None s c n = Some F.WrongStep
par_verdict rows (Some owing) s c n =
    if not (same_seat s owing) then Some F.NotYourTurn
    else if not (is_bo c) then Some F.NotForSale
    else if not (is_par rows n) then Some F.NotAPar
    else None

-- why a command is refused, if it is: by the money and the places of the table, and how far the auction has come
abbrev pub verdict_in : Terms → List Row → Accounts → Holders → Progress → Act → Option Refusal
verdict_in roster rows money holder a (A.BuyPrivate s) = purchase_verdict roster money holder a s
verdict_in roster rows money holder a (A.Bid s p amount) = bid_verdict roster money holder a s p amount
verdict_in roster rows money holder a (A.Pass s) = pass_verdict roster holder a s
verdict_in roster rows money holder a (A.Par s c n) = par_verdict rows a.par_due s c n
verdict_in roster rows money holder a _ = Some F.WrongStep

abbrev pub verdict : Terms → List Row → Book → Act → Option Refusal
verdict roster rows book act = verdict_in roster rows (balance book) (holder book) (progress book) act
