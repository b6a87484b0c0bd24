use Rattle.std.specs.Prelude.{◌≡◌, ℕ, ◌+◌, ◌*◌, ◌≤◌, ◌++◌, ◌==◌, nat_lt, not, Bool, true, false, cond, List, [], ◌∷◌, None, is_some, refl, slice_index_or}
use Rattle.std.proofs.Common.{sym, ◌∙◌, ap, arith}
use Rattle.std.proofs.lemmas.Bool.{eqb-true}
use Rattle.std.proofs.lemmas.Bool.Decides.{nat_tests}
use Rattle.rr_roster.specs.declared.company.Corp.{Corp}
use Rattle.rr_roster.specs.declared.company.Corp.TheVariants as C
use Rattle.rr_roster.specs.Company.{corp_index, corps}
use Rattle.rr_roster.specs.Chart.Chart.{Row}
use Rattle.rr_books.specs.declared.parties.Seat.{Seat}
use Rattle.rr_books.specs.declared.parties.Place.TheVariants as L
use Rattle.rr_books.specs.declared.acts.Act.{Act}
use Rattle.rr_books.specs.declared.acts.Act.TheVariants as A
use Rattle.rr_books.specs.Book.{Book, holder}
use Rattle.rr_books.specs.Same.{same_corp}
use Rattle.rr_books.specs.Shares.{share}
use Rattle.rr_shares.specs.Effects.{moves_lowest_shares, presidency_after_sale, sale_shares}
use Rattle.rr_books.specs.declared.refusal.Refusal.TheVariants as H
use Rattle.rr_shares.specs.Limits.Holdings.{Holdings, percent_of}
use Rattle.rr_shares.specs.Limits.Sales.{leaves_no_president, sale_verdict, sell_verdict}
use Rattle.rr_rounds.specs.Round.{ends_round, is_first, progress}
use Rattle.rr_stock.specs.Effects.{entries_of, pays_seller, proceeds, says, sells}
use Rattle.rr_stock.specs.Rules as rules
use Rattle.rr_stock.specs.Situation.{Situation, situation_of}
use Rattle.rr_stock.proofs.PoolLemmas.{Raises, moves_to_pool, no_more_by, pool, raises_by_shares, raises_no_more, raises_one, raises_then}
use Rattle.rr_stock.proofs.SaleVerdicts.{neither, passed}
use Rattle.rr_stock.proofs.TurnLemmas.{IsFree, Spares, after_sale_free, ending_counted, row_counted, seller_free}
use Rattle.rr_stock.proofs.laws.pool_stays_within_half.Goals as goal

pool_spare : Spares moves_to_pool
pool_spare = record {
  pay = λ from to amount. refl;
  move = λ cert to h. h;
  mark = λ c cell. refl;
  floats = λ c. refl;
}

-- a command that is no sale moves nothing to the pool
no_sale : (rows : List Row) (book : Book) (act : Act) (d : Corp) → ((s : Seat) (c : Corp) (n : ℕ) → act ≡ A.Sell s c n → IsFree moves_to_pool (sale_shares c s n)) → pool (book ++ entries_of rows book act) d ≤ pool book d
no_sale rows book act d none =
    let few = row_counted moves_to_pool pool_spare rows (situation_of rows book) act book 0 none (λ s e later. ending_counted moves_to_pool pool_spare rows (ends_round (progress book)) later) in
    no_more_by book (entries_of rows book act) d (omega arith)

-- a sale of n shares moves n 10% certificates to the pool
sale_raises : (rows : List Row) (t : Situation) (s : Seat) (c d : Corp) (n : ℕ) → Raises (sells rows t s c n) d (n * cond (same_corp d c) 10 0)
unfolding sells sale_shares
sale_raises rows t s c d n book =
    let k : ℕ = n * cond (same_corp d c) 10 0 in
    let say = says (A.Sell s c n) in
    let gets = pays_seller rows s c n (proceeds t c n) in
    let hands = presidency_after_sale c s n in
    let shares = moves_lowest_shares c n (L.Seat s) L.Pool in
    let moved : Raises (sale_shares c s n) d (0 + k) =
    raises_then hands (shares ∷ []) d 0 k (raises_no_more hands d (after_sale_free moves_to_pool pool_spare c s n)) (raises_one shares d k (raises_by_shares c d n (L.Seat s))) in
    let paid : Raises gets d 0 = raises_no_more gets d (seller_free moves_to_pool pool_spare rows s c n (proceeds t c n)) in
    let said : Raises say d 0 = raises_no_more say d (λ b. refl) in
    let all = raises_then say (sale_shares c s n ∷ gets ∷ []) d 0 (0 + k + 0) said (raises_then (sale_shares c s n) (gets ∷ []) d (0 + k) 0 moved (raises_one gets d 0 paid)) book in
    omega arith

at_most_half : (m : ℕ) → nat_lt 50 m ≡ false → m ≤ 50
at_most_half m e = grind (arith, nat_tests)

-- a lawful sale leaves the pool with at most half
room : (h : Holdings) (first : Bool) (s : Seat) (c : Corp) (n : ℕ) → sell_verdict h first s c n ≡ None → share h.holders L.Pool c + 10 * n ≤ 50
room h first s c n lawful =
    let later = passed first H.FirstStockRound (sale_verdict h s c n) lawful in
    let priced = passed (not (is_some (h.prices c))) H.NotForSale _ later.1 in
    let some = passed (n == 0) H.NotForSale _ priced.1 in
    let held = passed (nat_lt (percent_of h s c) (10 * n)) H.NotForSale _ some.1 in
    let kept = passed (leaves_no_president h.players h.holders s c _) H.NotForSale _ held.1 in
    let half = passed (nat_lt 50 (share h.holders L.Pool c + 10 * n)) H.PoolOverHalf None kept.1 in
    at_most_half (share h.holders L.Pool c + 10 * n) half.0

half_by : (b : Bool) (n before after : ℕ) → after ≤ before + n * cond b 10 0 → before ≤ 50 → (b ≡ true → before + 10 * n ≤ 50) → after ≤ 50
half_by true n before after h low room = let fits = room refl in omega arith
half_by false n before after h low room = omega arith

corp_told : (c : Corp) → slice_index_or corps (corp_index c) C.Prr ≡ c
corp_told C.Prr = refl
corp_told C.Nyc = refl
corp_told C.Cpr = refl
corp_told C.Bo = refl
corp_told C.Co = refl
corp_told C.Erie = refl
corp_told C.Nynh = refl
corp_told C.Bm = refl

same_is : (c d : Corp) → same_corp c d ≡ true → c ≡ d
same_is c d h = sym (corp_told c) ∙ ap (λ (n : ℕ). slice_index_or corps n C.Prr) (eqb-true (corp_index c) (corp_index d) h) ∙ corp_told d

pub returns : goal.returns
unfolding pool rules.sale_verdict
returns c rows book (A.Sell s corp n) lawful half d =
    let t = situation_of rows book in
    let judged = (neither (rules.turn_verdict t.progress s) _ lawful) in
    let fits = room t.holdings (is_first t.progress) s corp n judged in
    half_by (same_corp d corp) n (pool book d) (pool (book ++ sells rows t s corp n book) d) (sale_raises rows t s corp d n book) (half d)
    (λ same. let of : share (holder book) L.Pool d ≡ share (holder book) L.Pool corp = ap (λ (e : Corp). share (holder book) L.Pool e) (same_is d corp same) in omega arith)
returns c rows book act lawful half d =
    let low = no_sale rows book act d (λ s corp n e. absurd (cc)) in
    let had = half d in
    omega arith
