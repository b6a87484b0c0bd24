-- What a command of the auction adds is of no corporation's turn, and moves no train.
use Rattle.std.specs.Prelude.{◌≡◌, ℕ, Bool, true, false, ◌&&◌, List, [], Option, None, Some, option_map, refl}
use Rattle.std.proofs.Common.{ap}
use Rattle.std.specs.List.{list_all}
use Rattle.rr_roster.specs.declared.company.Private.{Private}
use Rattle.rr_roster.specs.declared.company.Corp.{Corp}
use Rattle.rr_roster.specs.Terms.{Terms}
use Rattle.rr_roster.specs.Chart.Chart as charts
use Rattle.rr_roster.specs.Chart.Chart.{par_place}
use Rattle.rr_books.specs.declared.acts.Act.{Act}
use Rattle.rr_books.specs.declared.acts.Act.TheVariants as A
use Rattle.rr_books.specs.declared.certificates.Cert.TheVariants as C
use Rattle.rr_books.specs.declared.entries.Entry.TheVariants as E
use Rattle.rr_books.specs.declared.entries.Marker.TheVariants as M
use Rattle.rr_books.specs.declared.parties.Money.{Money}
use Rattle.rr_books.specs.declared.parties.Party.TheVariants as P
use Rattle.rr_books.specs.declared.parties.Place.TheVariants as L
use Rattle.rr_books.specs.declared.parties.Seat.{Seat}
use Rattle.rr_books.specs.Book.{Book, holder, players}
use Rattle.rr_books.specs.Shares.{Holders, privates}
use Rattle.rr_rounds.specs.Bids.Bids.{Row, bids_on, sole_bidder}
use Rattle.rr_rounds.specs.Bids.Progress.{Progress, progress}
use Rattle.rr_rounds.specs.Bids.Unsold.{cheapest, is_private}
use Rattle.rr_desk.specs.Effects.{Effect, adds, in_turn}
use Rattle.rr_desk.specs.Incomes.{dollars}
use Rattle.rr_market.specs.Moves.{cell_of, par_marks}
use Rattle.rr_auction.specs.Effects.{brings_incomes, entries_of, gift, incomes_if, is_over, may_end, pass_of, purchase_of, row, said, sale, sale_at_bid, sets_par, settle, settle_each, settled, settles, stock_begins}
use Rattle.rr_auction.specs.Rules.{due, price}
use Rattle.rr_laws.proofs.Adding.{Adds, each_adds, none_adds, three_add, two_add}
use Rattle.rr_laws.proofs.LeavesAuction.{is_bare, keeps_step, still_bare}
use Rattle.rr_laws.proofs.StockLeaves.{incomes_leave, lowest_leaves, mark_leaves}

-- whatever the book, the effect is of no turn, and moves no train
abbrev AddsNone : Effect → Type 0
AddsNone f = Adds is_bare f

nothing : AddsNone (in_turn [])
nothing = none_adds is_bare

gift_adds : (p : Private) (s : Seat) → AddsNone (gift p s)
unfolding gift
gift_adds Private.Ca s book = still_bare (gift Private.Ca s book) (lowest_leaves Corp.Prr L.Offer (L.Seat s) book)
gift_adds Private.Bo s book = refl
gift_adds Private.Sv s book = refl
gift_adds Private.Csl s book = refl
gift_adds Private.Dh s book = refl
gift_adds Private.Mh s book = refl

sale_adds : (s : Seat) (p : Private) (amount : Money) → AddsNone (sale s p amount)
unfolding sale
sale_adds s p amount =
    three_add is_bare (adds (E.Move (C.Private p) (L.Seat s))) (adds (E.Pay (P.Seat s) P.Bank amount)) (gift p s) (λ book. refl) (λ book. refl) (gift_adds p s)

bid_adds : (p : Private) (bids : Row) (bidder : Option Seat) → AddsNone (sale_at_bid p bids bidder)
bid_adds p bids None = nothing
bid_adds p bids (Some s) = sale_adds s p _

settled_adds : (p : Private) (is_next : Bool) (bids : Row) → AddsNone (settled p is_next bids)
settled_adds p false bids = nothing
settled_adds p true bids = bid_adds p bids (sole_bidder bids)

settles_adds : (p : Private) → AddsNone (settles p)
unfolding settles
settles_adds p book = settled_adds p (is_private p (cheapest (holder book))) (bids_on (progress book).bids p) book

begin_adds : (over : Bool) → AddsNone (stock_begins over)
begin_adds true book = refl
begin_adds false book = refl

end_adds : AddsNone may_end
unfolding may_end
end_adds book = begin_adds (is_over (due book)) book

each_settled : (ps : List Private) → AddsNone (settle_each ps)
unfolding settle_each
each_settled ps = each_adds is_bare settles ps settles_adds

settle_adds : AddsNone settle
unfolding settle
settle_adds = two_add is_bare (settle_each privates) may_end (each_settled privates) end_adds

incomes_add : (roster : Terms) (brings : Bool) → AddsNone (incomes_if roster brings)
incomes_add roster true book = still_bare (incomes_if roster true book) (incomes_leave roster privates book)
incomes_add roster false book = refl

purchase_adds : (roster : Terms) (s : Seat) (falls : ℕ) (on : Option Private) → AddsNone (purchase_of roster s falls on)
purchase_adds roster s falls None = nothing
purchase_adds roster s falls (Some p) =
    let amount = dollars (price roster falls p) in
    three_add is_bare (adds (E.Step (M.Act (A.BuyPrivate s)))) (sale s p amount) settle (λ book. refl) (sale_adds s p amount) settle_adds

said_adds : (act : Act) → keeps_step act ≡ true → AddsNone (said act)
said_adds act keeps = two_add is_bare (adds (E.Step (M.Act act))) settle (λ book. ap (λ (b : Bool). b && true) keeps) settle_adds

pass_adds : (roster : Terms) (s : Seat) (brings : Bool) → AddsNone (pass_of roster s brings)
pass_adds roster s brings =
    three_add is_bare (adds (E.Step (M.Act (A.Pass s)))) settle (incomes_if roster brings) (λ book. refl) settle_adds (incomes_add roster brings)

par_adds : (rows : List charts.Row) (s : Seat) (c : Corp) (n : ℕ) → AddsNone (sets_par rows s c n)
par_adds rows s c n =
    three_add is_bare (adds (E.Step (M.Act (A.Par s c n)))) (par_marks rows c n) settle (λ book. refl)
    (λ book. still_bare (par_marks rows c n book) (mark_leaves c (option_map cell_of (par_place rows n)))) settle_adds

row_adds : (roster : Terms) (rows : List charts.Row) (act : Act) (n : ℕ) (holders : Holders) (a : Progress) → AddsNone (row roster rows act n holders a)
row_adds roster rows (A.BuyPrivate s) n holders a = purchase_adds roster s a.falls (cheapest holders)
row_adds roster rows (A.Bid s p amount) n holders a = said_adds (A.Bid s p amount) refl
row_adds roster rows (A.Pass s) n holders a = pass_adds roster s (brings_incomes n holders a)
row_adds roster rows (A.Par s c price) n holders a = par_adds rows s c price
row_adds roster rows _ n holders a = nothing

pub auction_adds : (roster : Terms) (rows : List charts.Row) (book : Book) (act : Act) → list_all is_bare (entries_of roster rows book act) ≡ true
auction_adds roster rows book act = row_adds roster rows act (players book) (holder book) (progress book) book
