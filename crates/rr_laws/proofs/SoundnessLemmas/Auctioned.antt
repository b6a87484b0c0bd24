-- What the auction adds to a book moves nothing to the pool.
use Rattle.std.specs.Prelude.{◌≡◌, ℕ, Bool, true, false, cond, List, [], ◌∷◌, ◌++◌, Option, None, Some, map, count_by, refl}
use Rattle.std.proofs.Common.{arith}
use Rattle.std.proofs.lemmas.List.Sums.{sum_by-append}
use Rattle.rr_roster.specs.declared.company.Private.{Private}
use Rattle.rr_roster.specs.declared.company.Corp.{Corp}
use Rattle.rr_roster.specs.Terms.{Terms, income_of}
use Rattle.rr_roster.specs.Chart.Chart as charts
use Rattle.rr_books.specs.declared.parties.Money.{Money}
use Rattle.rr_books.specs.declared.parties.Party.{Party}
use Rattle.rr_books.specs.declared.parties.Party.TheVariants as P
use Rattle.rr_books.specs.declared.parties.Seat.{Seat}
use Rattle.rr_books.specs.declared.parties.Place.TheVariants as L
use Rattle.rr_books.specs.declared.certificates.Cert.{Cert}
use Rattle.rr_books.specs.declared.certificates.Cert.TheVariants as C
use Rattle.rr_books.specs.declared.entries.Cell.{Cell}
use Rattle.rr_books.specs.declared.entries.Entry.{Entry}
use Rattle.rr_books.specs.declared.entries.Entry.TheVariants as E
use Rattle.rr_books.specs.declared.entries.Marker.TheVariants as M
use Rattle.rr_books.specs.declared.acts.Act.{Act}
use Rattle.rr_books.specs.declared.acts.Act.TheVariants as A
use Rattle.rr_books.specs.Book.{Book, holder, players}
use Rattle.rr_books.specs.Shares.{privates}
use Rattle.rr_desk.specs.Effects.{Effect, adds, in_turn, lowest_share, moves_if}
use Rattle.rr_desk.specs.Incomes.{dollars, owner, pay_incomes_of, pays_if, pays_income}
use Rattle.rr_market.specs.Moves.{mark_at, par_marks}
use Rattle.rr_rounds.specs.Bids.Bids.{Row, sole_bidder, bids_on}
use Rattle.rr_auction.specs.Effects.{brings_incomes, entries_of, gift, incomes_if, is_over, may_end, purchase_of, sale, sale_at_bid, settle, settle_each, settled, settles, stock_begins}
use Rattle.rr_rounds.specs.Bids.Progress.{progress}
use Rattle.rr_auction.specs.Rules.{due, price}
use Rattle.rr_rounds.specs.Bids.Unsold.{cheapest, is_private}
use Rattle.rr_stock.specs.PoolLimits.{HasHalfAtMost}
use Rattle.rr_stock.proofs.PoolLemmas.{moves_to_pool, no_more_by, pool}

-- whatever the book, the effect moves nothing to the pool
abbrev IsClear : Effect → Type 0
IsClear f = (book : Book) → count_by moves_to_pool (f book) ≡ 0

clear_none : IsClear (in_turn [])
clear_none book = refl

clear_then : (f : Effect) (fs : List Effect) → IsClear f → IsClear (in_turn fs) → IsClear (in_turn (f ∷ fs))
clear_then f fs h k book =
    let both = sum_by-append (λ (x : Entry). cond (moves_to_pool x) 1 0) (f book) (in_turn fs (book ++ f book)) in
    let first = h book in
    let others = k (book ++ f book) in
    omega arith

clear_two : (f g : Effect) → IsClear f → IsClear g → IsClear (in_turn (f ∷ g ∷ []))
clear_two f g h k = clear_then f (g ∷ []) h (clear_then g [] k clear_none)

clear_three : (f g i : Effect) → IsClear f → IsClear g → IsClear i → IsClear (in_turn (f ∷ g ∷ i ∷ []))
clear_three f g i h k l = clear_then f (g ∷ i ∷ []) h (clear_two g i k l)

moved_clear : (cert : Option Cert) (s : Seat) → count_by moves_to_pool (moves_if cert (L.Seat s)) ≡ 0
moved_clear None s = refl
moved_clear (Some cert) s = refl

gift_clear : (p : Private) (s : Seat) → IsClear (gift p s)
unfolding gift
gift_clear Private.Ca s book = moved_clear (lowest_share (holder book) Corp.Prr L.Offer) s
gift_clear Private.Bo s book = refl
gift_clear Private.Sv s book = refl
gift_clear Private.Csl s book = refl
gift_clear Private.Dh s book = refl
gift_clear Private.Mh s book = refl

sale_clear : (s : Seat) (p : Private) (amount : Money) → IsClear (sale s p amount)
unfolding sale
sale_clear s p amount = clear_three (adds (E.Move (C.Private p) (L.Seat s))) (adds (E.Pay (P.Seat s) P.Bank amount)) (gift p s) (λ book. refl) (λ book. refl) (gift_clear p s)

bid_clear : (p : Private) (row : Row) (o : Option Seat) → IsClear (sale_at_bid p row o)
bid_clear p row None = clear_none
bid_clear p row (Some s) = sale_clear s p _

settled_clear : (p : Private) (b : Bool) (row : Row) → IsClear (settled p b row)
settled_clear p true row = bid_clear p row (sole_bidder row)
settled_clear p false row = clear_none

settles_clear : (p : Private) → IsClear (settles p)
unfolding settles
settles_clear p book = settled_clear p (is_private p (cheapest (holder book))) (bids_on (progress book).bids p) book

each_clear : (ps : List Private) → IsClear (settle_each ps)
unfolding settle_each
each_clear [] = clear_none
each_clear (p ∷ ps) = clear_then (settles p) (map settles ps) (settles_clear p) (each_clear ps)

begins_clear : (b : Bool) → IsClear (stock_begins b)
begins_clear true book = refl
begins_clear false book = refl

end_clear : IsClear may_end
unfolding may_end
end_clear book = begins_clear (is_over (due book)) book

settle_clear : IsClear settle
unfolding settle
settle_clear = clear_two (settle_each privates) may_end (each_clear privates) end_clear

paid_clear : (o : Option Party) (amount : ℕ) → IsClear (pays_if o amount)
paid_clear None amount = clear_none
paid_clear (Some party) amount = λ book. refl

income_clear : (roster : Terms) (p : Private) → IsClear (pays_income roster p)
unfolding pays_income
income_clear roster p book = paid_clear (owner (players book) (holder book (C.Private p))) (income_of roster p) book

incomes_clear : (roster : Terms) (ps : List Private) → IsClear (pay_incomes_of roster ps)
unfolding pay_incomes_of
incomes_clear roster [] = clear_none
incomes_clear roster (p ∷ ps) = clear_then (pays_income roster p) (map (pays_income roster) ps) (income_clear roster p) (incomes_clear roster ps)

brought_clear : (roster : Terms) (b : Bool) → IsClear (incomes_if roster b)
brought_clear roster true = incomes_clear roster privates
brought_clear roster false = clear_none

mark_clear : (c : Corp) (cell : Option Cell) → count_by moves_to_pool (mark_at c cell) ≡ 0
mark_clear c None = refl
mark_clear c (Some cell) = refl

purchase_clear : (roster : Terms) (s : Seat) (falls : ℕ) (o : Option Private) → IsClear (purchase_of roster s falls o)
purchase_clear roster s falls None = clear_none
purchase_clear roster s falls (Some p) =
    clear_three (adds (E.Step (M.Act (A.BuyPrivate s)))) (sale s p (dollars (price roster falls p))) settle (λ book. refl) (sale_clear s p (dollars (price roster falls p))) settle_clear

act_clear : (roster : Terms) (rows : List charts.Row) (book : Book) (act : Act) → count_by moves_to_pool (entries_of roster rows book act) ≡ 0
act_clear roster rows book (A.BuyPrivate s) = purchase_clear roster s (progress book).falls (cheapest (holder book)) book
act_clear roster rows book (A.Bid s p amount) = clear_two (adds (E.Step (M.Act (A.Bid s p amount)))) settle (λ b. refl) settle_clear book
act_clear roster rows book (A.Pass s) =
    let brings = brings_incomes (players book) (holder book) (progress book) in
    clear_three (adds (E.Step (M.Act (A.Pass s)))) settle (incomes_if roster brings) (λ b. refl) settle_clear (brought_clear roster brings) book
act_clear roster rows book (A.Par s c n) = clear_three (adds (E.Step (M.Act (A.Par s c n)))) (par_marks rows c n) settle (λ b. refl) (λ b. mark_clear c _) settle_clear book
act_clear roster rows book _ = refl

-- so the pool stays within half
pub half_after_act : (roster : Terms) (rows : List charts.Row) (book : Book) (act : Act) → HasHalfAtMost book → HasHalfAtMost (book ++ entries_of roster rows book act)
unfolding pool
half_after_act roster rows book act half c =
    let low = no_more_by book (entries_of roster rows book act) c (act_clear roster rows book act) in
    let had = half c in
    omega arith
