-- What a lawful command of the auction adds to a table's book.
use Rattle.std.specs.Prelude.{ℕ, not, Bool, true, false, List, [], ◌∷◌, Option, None, Some, is_some, map, if◌then◌else◌, ◌&&◌}
use Rattle.rr_roster.specs.declared.company.Private.{Private}
use Rattle.rr_roster.specs.declared.company.Corp.TheVariants as Corp
use Rattle.rr_roster.specs.declared.company.Corp.{Corp as Company}
use Rattle.rr_roster.specs.Terms.{Terms}
use Rattle.rr_roster.specs.Chart.Chart as charts
use Rattle.rr_books.specs.declared.parties.Money.{Money}
use Rattle.rr_books.specs.declared.parties.Seat.{Seat}
use Rattle.rr_books.specs.declared.parties.Party.TheVariants as P
use Rattle.rr_books.specs.declared.parties.Place.TheVariants as L
use Rattle.rr_books.specs.declared.certificates.Cert.TheVariants as C
use Rattle.rr_books.specs.declared.entries.Entry.TheVariants as E
use Rattle.rr_books.specs.declared.entries.Marker.TheVariants as M
use Rattle.rr_books.specs.declared.acts.Act.{Act}
use Rattle.rr_books.specs.declared.acts.Act.TheVariants as A
use Rattle.rr_books.specs.Book.{Book, holder, players}
use Rattle.rr_books.specs.Shares.{Holders, privates}
use Rattle.rr_desk.specs.Effects.{Effect, adds, in_turn, moves_lowest_share}
use Rattle.rr_desk.specs.Incomes.{dollars, pay_incomes}
use Rattle.rr_market.specs.Moves.{par_marks}
use Rattle.rr_auction.specs.declared.due.Due.{Due}
use Rattle.rr_auction.specs.declared.due.Due.TheVariants as D
use Rattle.rr_rounds.specs.Bids.Unsold.{cheapest, is_private}
use Rattle.rr_rounds.specs.Bids.Bids.{Row, bid_in, bids_on, sole_bidder}
use Rattle.rr_rounds.specs.Bids.Progress.{Progress, all_pass, progress, raise_due}
use Rattle.rr_auction.specs.Rules.{due, price}

-- what comes with a private: the lowest share of the PRR on offer with the C&A, the 20% certificate of the B&O with the B&O
unfoldable pub gift : Private → Seat → Effect
gift Private.Ca s = moves_lowest_share Corp.Prr L.Offer (L.Seat s)
gift Private.Bo s = adds (E.Move (C.President Corp.Bo) (L.Seat s))
gift _ s = in_turn []

-- a seat gets a private for an amount
unfoldable pub sale : Seat → Private → Money → Effect
sale s p amount = in_turn (adds (E.Move (C.Private p) (L.Seat s)) ∷ adds (E.Pay (P.Seat s) P.Bank amount) ∷ gift p s ∷ [])

-- a private goes to its only bidder at the bid, if it has just one
abbrev pub sale_at_bid : Private → Row → Option Seat → Effect
sale_at_bid p row None = in_turn []
sale_at_bid p row (Some s) = sale s p (dollars (bid_in row s))

-- a private is settled where it is the cheapest and has just one bidder
abbrev pub settled : Private → Bool → Row → Effect
settled p false row = in_turn []
settled p true row = sale_at_bid p row (sole_bidder row)

unfoldable pub settles : Private → Effect
settles p book = settled p (is_private p (cheapest (holder book))) (bids_on (progress book).bids p) book

abbrev pub is_over : Due → Bool
is_over (D.Stock s) = true
is_over _ = false

-- the stock round begins where the auction is over
abbrev pub stock_begins : Bool → Effect
stock_begins over = if over then adds (E.Step M.Stock) else in_turn []

unfoldable pub may_end : Effect
may_end book = stock_begins (is_over (due book)) book

-- the privates that have just one bidder when they become the cheapest are sold, and the auction may be over
unfoldable pub settle_each : List Private → Effect
settle_each ps = in_turn (map settles ps)

unfoldable pub settle : Effect
settle = in_turn (settle_each privates ∷ may_end ∷ [])

-- a pass brings the incomes where all seats pass in a row with it and the first private is sold
abbrev pub brings_incomes : ℕ → Holders → Progress → Bool
brings_incomes n holder a = not (is_some (raise_due holder a)) && all_pass n a && not (is_private Private.Sv (cheapest holder))

abbrev pub incomes_if : Terms → Bool → Effect
incomes_if roster brings = if brings then pay_incomes roster else in_turn []

-- a seat buys what is for sale
abbrev pub purchase_of : Terms → Seat → ℕ → Option Private → Effect
purchase_of roster s falls None = in_turn []
purchase_of roster s falls (Some p) =
    in_turn (adds (E.Step (M.Act (A.BuyPrivate s))) ∷ sale s p (dollars (price roster falls p)) ∷ settle ∷ [])

-- a command that is taken down, and then what it settles
abbrev pub said : Act → Effect
said act = in_turn (adds (E.Step (M.Act act)) ∷ settle ∷ [])

abbrev pub pass_of : Terms → Seat → Bool → Effect
pass_of roster s brings = in_turn (adds (E.Step (M.Act (A.Pass s))) ∷ settle ∷ incomes_if roster brings ∷ [])

-- a seat sets a par: the token is put on the chart's par cell, and then what waited for the par is settled
abbrev pub sets_par : List charts.Row → Seat → Company → ℕ → Effect
sets_par rows s c price = in_turn (adds (E.Step (M.Act (A.Par s c price))) ∷ par_marks rows c price ∷ settle ∷ [])

-- what a command that isn't refused adds
abbrev pub row : Terms → List charts.Row → Act → ℕ → Holders → Progress → Effect
row roster rows (A.BuyPrivate s) n holder a = purchase_of roster s a.falls (cheapest holder)
row roster rows (A.Bid s p amount) n holder a = said (A.Bid s p amount)
row roster rows (A.Pass s) n holder a = pass_of roster s (brings_incomes n holder a)
row roster rows (A.Par s c price) n holder a = sets_par rows s c price
row roster rows _ n holder a = in_turn []

abbrev pub entries_of : Terms → List charts.Row → Book → Act → Book
entries_of roster rows book act = row roster rows act (players book) (holder book) (progress book) book
