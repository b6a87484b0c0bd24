-- What a lawful command of a stock round tells of the corporation that it concerns.
use Rattle.std.specs.Prelude.{◌≡◌, ℕ, Bool, true, false, cond, not, ◌&&◌, List, [], ◌∷◌, Option, None, Some, fold, is_some, unwrap_or, refl}
use Rattle.std.proofs.Common.{sym, ◌∙◌, ap}
use Rattle.std.proofs.lemmas.Bool.{and_parts, false≢true}
use Rattle.rr_roster.specs.declared.company.Private.{Private}
use Rattle.rr_roster.specs.declared.company.Corp.{Corp}
use Rattle.rr_roster.specs.Chart.Chart.{Row}
use Rattle.rr_books.specs.declared.parties.Seat.{Seat}
use Rattle.rr_books.specs.declared.parties.Place.{Place}
use Rattle.rr_books.specs.declared.parties.Place.TheVariants as L
use Rattle.rr_books.specs.declared.certificates.Cert.TheVariants as C
use Rattle.rr_books.specs.declared.entries.Cell.{Cell}
use Rattle.rr_books.specs.declared.entries.Entry.{Entry}
use Rattle.rr_books.specs.declared.entries.Entry.TheVariants as E
use Rattle.rr_books.specs.declared.acts.Act.TheVariants as A
use Rattle.rr_roster.specs.declared.sources.ShareSource.{ShareSource}
use Rattle.rr_books.specs.Book.{Book, holder}
use Rattle.rr_books.specs.Same.{same_corp}
use Rattle.rr_books.specs.Shares.{is_at}
use Rattle.rr_market.specs.Marks.{cell_after, first_after, first_mark_of, mark_of, par_of, price_at, price_of}
use Rattle.rr_rounds.specs.Round.{is_first}
use Rattle.rr_books.specs.declared.refusal.Refusal.TheVariants as H
use Rattle.rr_shares.specs.Limits.Sales as holdings
use Rattle.rr_stock.specs.Rules as rules
use Rattle.rr_stock.specs.Rules.{turn_verdict, verdict}
use Rattle.rr_stock.specs.Situation.{situation_of}
use Rattle.rr_stock.proofs.SaleVerdicts.{neither, passed}
use Rattle.rr_laws.specs.Soundness.Presidencies.{AwaitsPar, IsOffered}

-- what the verdicts tell
not_refused : (b : Bool) → not b ≡ false → b ≡ true
not_refused true e = refl
not_refused false e = absurd (false≢true (sym e))

at_offer : (x : Option Place) → is_at x L.Offer ≡ true → x ≡ Some L.Offer
at_offer None h = absurd (false≢true h)
at_offer (Some (L.Seat s)) h = absurd (false≢true h)
at_offer (Some (L.Corp c)) h = absurd (false≢true h)
at_offer (Some L.Offer) h = refl
at_offer (Some L.Pool) h = absurd (false≢true h)
at_offer (Some L.Gone) h = absurd (false≢true h)

pub par_offered : (rows : List Row) (book : Book) (s : Seat) (c : Corp) (m : ℕ) → verdict rows book (A.Par s c m) ≡ None → IsOffered book c
unfolding rules.par_verdict
par_offered rows book s c m lawful =
    let t = situation_of rows book in
    let one = passed _ H.MustSellFirst _ (neither (turn_verdict t.progress s) (rules.par_verdict rows t s c m) lawful) in
    let two = passed (not (is_at (holder book (C.President c)) L.Offer)) H.NotForSale _ one.1 in
    at_offer (holder book (C.President c)) (not_refused _ two.0)

pub purchase_priced : (rows : List Row) (book : Book) (s : Seat) (c : Corp) (source : ShareSource) → verdict rows book (A.BuyShare s c source) ≡ None → is_some (par_of rows book c) ≡ true
unfolding rules.purchase_verdict
purchase_priced rows book s c source lawful =
    let t = situation_of rows book in
    let one = passed _ H.MustSellFirst _ (neither (turn_verdict t.progress s) (rules.purchase_verdict t s c source) lawful) in
    let two = passed (not (rules.has_share (holder book) c source && is_some (par_of rows book c))) H.NotForSale _ one.1 in
    let both = and_parts (rules.has_share (holder book) c source) (is_some (par_of rows book c)) (not_refused _ two.0) in
    both.1

pub sale_priced : (rows : List Row) (book : Book) (s : Seat) (c : Corp) (k : ℕ) → verdict rows book (A.Sell s c k) ≡ None → is_some (price_of rows book c) ≡ true
unfolding rules.sale_verdict
sale_priced rows book s c k lawful =
    let t = situation_of rows book in
    let h = t.holdings in
    let judged = neither (turn_verdict t.progress s) (rules.sale_verdict t s c k) lawful in
    let later = passed (is_first t.progress) H.FirstStockRound (holdings.sale_verdict h s c k) judged in
    let priced = passed (not (is_some (price_of rows book c))) H.NotForSale _ later.1 in
    not_refused _ priced.0

pub swap_owned : (rows : List Row) (book : Book) (s : Seat) (source : ShareSource) → verdict rows book (A.Swap s source) ≡ None → is_at (holder book (C.Private Private.Mh)) (L.Seat s) ≡ true
unfolding rules.swap_verdict
swap_owned rows book s source lawful =
    let t = situation_of rows book in
    let one = passed (not (is_at (holder book (C.Private Private.Mh)) (L.Seat s) && rules.has_share (holder book) Corp.Nyc source)) H.NotForSale _ (neither (turn_verdict t.progress s) (rules.swap_verdict t s source) lawful) in
    let both = and_parts (is_at (holder book (C.Private Private.Mh)) (L.Seat s)) (rules.has_share (holder book) Corp.Nyc source) (not_refused _ one.0) in
    both.0

-- a corporation whose token isn't on the chart has no price, and no par
same_some : (c : Corp) (x y : Option Cell) (es : Book) → is_some x ≡ is_some y → is_some (fold (cell_after c) x es) ≡ is_some (fold (first_after c) y es)
same_some c x y [] h = h
same_some c x y (e ∷ es) h = same_some c (cell_after c x e) (first_after c y e) es (by_entry e)
  where
    by_test : (b : Bool) (to : Cell) → is_some (cond b (Some to) x) ≡ is_some (cond b (Some (unwrap_or y to)) y)
    by_test true to = refl
    by_test false to = h

    by_entry : (d : Entry) → is_some (cell_after c x d) ≡ is_some (first_after c y d)
    by_entry (E.Mark corp to) = by_test (same_corp c corp) to
    by_entry _ = h

no_price : (rows : List Row) (cell : Option Cell) → is_some cell ≡ false → is_some (price_at rows cell) ≡ false
no_price rows None h = refl
no_price rows (Some cell) h = absurd (false≢true (sym h))

pub unpriced : (rows : List Row) (book : Book) (c : Corp) → AwaitsPar book c → is_some (price_of rows book c) ≡ false
unpriced rows book c awaits = no_price rows (mark_of book c) (ap (λ (x : Option Cell). is_some x) awaits.unmarked)

pub parless : (rows : List Row) (book : Book) (c : Corp) → AwaitsPar book c → is_some (par_of rows book c) ≡ false
unfolding mark_of first_mark_of
parless rows book c awaits =
    no_price rows (first_mark_of book c) (sym (same_some c None None book refl) ∙ ap (λ (x : Option Cell). is_some x) awaits.unmarked)
