-- One share can be sold for a train wherever several can.
use Rattle.std.specs.Prelude.{◌≡◌, ℕ, zero, suc, ◌+◌, ◌-◌, ◌*◌, ◌<◌, ◌≤◌, ◌==◌, Bool, true, false, not, nat_lt, cond, ◌&&◌, Option, None, Some, MatchOption, is_some, slice_index_or, length, refl, if◌then◌else◌}
use Rattle.std.specs.List.{list_any}
use Rattle.std.specs.Option.{option_or}
use Rattle.std.proofs.Common.{sym, ◌∙◌, ap, arith, inl, inr, get_or, eqb}
use Rattle.std.proofs.lemmas.Bool.{eq-eqb, eqb-false, eqb-true, ltb-false, ltb-true, le-ltb, and_right, false≢true}
use Rattle.std.proofs.lemmas.Bool.Decides.{eqb_tells, nat_tests}
use Rattle.std.proofs.lemmas.List.Folds.{Any-from_list_any, list_any_at}
use Rattle.rr_roster.specs.declared.company.Corp.{Corp}
use Rattle.rr_roster.specs.declared.company.Corp.TheVariants as K
use Rattle.rr_roster.specs.Company.{corps, corp_index}
use Rattle.rr_roster.proofs.Orders.{corp_index-injective}
use Rattle.rr_books.specs.declared.parties.Seat.{Seat}
use Rattle.rr_books.specs.declared.parties.Place.TheVariants as L
use Rattle.rr_books.specs.declared.certificates.Cert.TheVariants as C
use Rattle.rr_books.specs.Same.{same_corp, same_seat}
use Rattle.rr_books.specs.Shares.{Holders, is_at, president, share}
use Rattle.rr_books.specs.declared.refusal.Refusal.{Refusal}
use Rattle.rr_books.specs.declared.refusal.Refusal.TheVariants as H
use Rattle.rr_shares.specs.Limits.Holdings.{Holdings, percent_of}
use Rattle.rr_shares.specs.Limits.Sales.{has_successor, leaves_no_president, sale_verdict}
use Rattle.rr_shares.specs.Holdings.{Percents, heir, percent_in, percents_after_sale, share_after_sale}
use Rattle.rr_shares.specs.Presidents.{HasTheMost}
use Rattle.rr_shares.specs.Succession.{at_table, handover_after_sale, handover_by, handover_from}
use Rattle.rr_shares.proofs.Heirs.{heir_has_most}
use Rattle.rr_stock.proofs.SaleVerdicts.{passed}
use Rattle.rr_rules.specs.declared.forced.needs.Need.{Need}
use Rattle.rr_rules.specs.Forced.Sales.{can_raise, changes_president, is_seat, president_verdict, raise_verdict, raises_one, share_verdict}
use Rattle.rr_rules.specs.Forced.SaleLaws.{IsLed, OneShareSuffices}

-- a test in a chain that refuses nothing
refuses_none : {F : Type 0} (b : Bool) (fault : F) (others : Option F) → b ≡ false → others ≡ None → (if b then Some fault else others) ≡ None
refuses_none true fault others e rest = absurd (false≢true (sym e))
refuses_none false fault others e rest = rest

both_none : {F : Type 0} (first second : Option F) → option_or first second ≡ None → (first ≡ None) × (second ≡ None)
both_none None second e = (refl, e)
both_none (Some fault) second e = absurd (cc)

-- who is left with more leaves the corporation with a president too
still_led : (president alone : Bool) (less more : ℕ) → less ≤ more → (president && nat_lt less 20 && alone) ≡ false → (president && nat_lt more 20 && alone) ≡ false
still_led false alone less more le e = refl
still_led true false less more le e = and_right (nat_lt more 20) false refl
still_led true true less more le e = grind (arith, nat_tests)

one_of_many : (h : Holdings) (s : Seat) (c : Corp) (n : ℕ) → sale_verdict h s c n ≡ None → sale_verdict h s c 1 ≡ None
one_of_many h s c n lawful =
    let held = percent_of h s c in
    let pool = share h.holders L.Pool c in
    let president = is_at (h.holders (C.President c)) (L.Seat s) in
    let alone = not (has_successor h.players h.holders s c) in
    let priced = passed (not (is_some (h.prices c))) H.NotForSale _ lawful in
    let some = passed (n == 0) H.NotForSale _ priced.1 in
    let enough = passed (nat_lt held (10 * n)) H.NotForSale _ some.1 in
    let led = passed (leaves_no_president h.players h.holders s c (held - 10 * n)) H.NotForSale _ enough.1 in
    let room = passed (nat_lt 50 (pool + 10 * n)) H.PoolOverHalf None led.1 in
    let above : n ≡ 0 → ⊥ = eqb-false n 0 some.0 in
    let holds : 10 * n ≤ held = ltb-false held (10 * n) enough.0 in
    let fits : pool + 10 * n ≤ 50 = ltb-false 50 (pool + 10 * n) room.0 in
    refuses_none (not (is_some (h.prices c))) H.NotForSale _ priced.0
    (refuses_none false H.NotForSale _ refl
    (refuses_none (nat_lt held 10) H.NotForSale _ (le-ltb held 10 (omega arith))
    (refuses_none (leaves_no_president h.players h.holders s c (held - 10)) H.NotForSale _ (still_led president alone (held - 10 * n) (held - 10) (omega arith) led.0)
    (refuses_none (nat_lt 50 (pool + 10)) H.PoolOverHalf None (le-ltb 50 (pool + 10) (omega arith)) refl))))

-- what the row after a sale has of a seat
row_at : (H : Holders) (c : Corp) (seller : Seat) (n k : ℕ) → k < 6 → get_or (percents_after_sale H c seller n) k 0 ≡ share_after_sale H c seller n (record { 0 = k })
unfolding percents_after_sale
row_at H c seller n zero h = refl
row_at H c seller n (suc zero) h = refl
row_at H c seller n (suc (suc zero)) h = refl
row_at H c seller n (suc (suc (suc zero))) h = refl
row_at H c seller n (suc (suc (suc (suc zero)))) h = refl
row_at H c seller n (suc (suc (suc (suc (suc zero))))) h = refl
row_at H c seller n (suc (suc (suc (suc (suc (suc k)))))) h = absurd (omega arith)

row_long : (H : Holders) (c : Corp) (seller : Seat) (n : ℕ) → length (percents_after_sale H c seller n) ≡ 6
unfolding percents_after_sale
row_long H c seller n = refl

row_own : (H : Holders) (c : Corp) (seller : Seat) (n : ℕ) (s : Seat) → s.0 < 6 → s.0 ≡ seller.0 → percent_in (percents_after_sale H c seller n) s ≡ share H (L.Seat seller) c - 10 * n
row_own H c seller n s few same =
    row_at H c seller n s.0 few
    ∙ ap (λ (b : Bool). cond b (share H (L.Seat s) c - 10 * n) (share H (L.Seat s) c)) (eq-eqb s.0 seller.0 same)
    ∙ ap (λ (k : ℕ). share H (L.Seat (record { 0 = k })) c - 10 * n) same

row_other : (H : Holders) (c : Corp) (seller : Seat) (n : ℕ) (s : Seat) → s.0 < 6 → eqb s.0 seller.0 ≡ false → percent_in (percents_after_sale H c seller n) s ≡ share H (L.Seat s) c
row_other H c seller n s few apart =
    row_at H c seller n s.0 few ∙ ap (λ (b : Bool). cond b (share H (L.Seat s) c - 10 * n) (share H (L.Seat s) c)) apart

-- who has no more than the seller once so many are sold has no more once one is sold
still_less : (H : Holders) (c : Corp) (p seller s : Seat) (n : ℕ) → p.0 < 6 → s.0 < 6 → 1 ≤ n → p.0 ≡ seller.0
    → percent_in (percents_after_sale H c seller n) s ≤ percent_in (percents_after_sale H c seller n) p
    → percent_in (percents_after_sale H c seller 1) s ≤ percent_in (percents_after_sale H c seller 1) p
still_less H c p seller s n few within some own less =
    let many = row_own H c seller n p few own in
    let one = row_own H c seller 1 p few own in
    elim (eqb_tells s.0 seller.0) [
      | inl same ↦ let too = row_own H c seller 1 s within same.1 in omega arith
      | inr other ↦
          let before = row_other H c seller n s within other.0 in
          let after = row_other H c seller 1 s within other.0 in
          omega arith
    ]

-- what an heir is, and what it is that there is none
abbrev IsHeir : Percents → ℕ → Seat → Option Seat → Type 0
IsHeir row players p o = MatchOption o (HasTheMost row players p) (λ s. (s.0 < players) × (percent_in row p < percent_in row s) × HasTheMost row players s)

no_heir_by : (many one : Percents) (players : ℕ) (p : Seat) (first second : Option Seat) → IsHeir many players p first → IsHeir one players p second
    → ((s : Seat) → s.0 < players → percent_in many s ≤ percent_in many p → percent_in one s ≤ percent_in one p)
    → is_some first ≡ false → is_some second ≡ false
no_heir_by many one players p first None a b low e = refl
no_heir_by many one players p (Some t) (Some s) a b low e = absurd (false≢true (sym e))
no_heir_by many one players p None (Some s) a b low e =
    let within : s.0 < players = b.0 in
    let more : percent_in one p < percent_in one s = b.1 in
    let less = low s within (a s.0 within) in
    absurd (omega arith)

no_heir : (H : Holders) (players : ℕ) (c : Corp) (p seller : Seat) (n : ℕ) → players ≤ 6 → p.0 < players → 1 ≤ n → p.0 ≡ seller.0
    → is_some (heir (percents_after_sale H c seller n) players p) ≡ false → is_some (heir (percents_after_sale H c seller 1) players p) ≡ false
no_heir H players c p seller n few seated some own none =
    let many = percents_after_sale H c seller n in
    let one = percents_after_sale H c seller 1 in
    let long : length many ≡ 6 = row_long H c seller n in
    let long_one : length one ≡ 6 = row_long H c seller 1 in
    no_heir_by many one players p (heir many players p) (heir one players p)
    (heir_has_most many players p seated (omega arith)) (heir_has_most one players p seated (omega arith))
    (λ s within less. still_less H c p seller s n (omega arith) (omega arith) some own less) none

seated : (players : ℕ) (o : Option Seat) (p : Seat) → at_table players o ≡ Some p → p.0 < players
seated players None p e = absurd (cc)
seated players (Some s) p e = by_test (nat_lt s.0 players) refl e
  where
    by_test : (b : Bool) → nat_lt s.0 players ≡ b → cond b (Some s) None ≡ Some p → p.0 < players
    by_test true is h = let same : s ≡ p = cc in ltb-true p.0 players (ap (λ (x : Seat). nat_lt x.0 players) (sym same) ∙ is)
    by_test false is h = absurd (cc)

is_handed : (p : Seat) (o : Option Seat) → is_some (handover_from p o) ≡ is_some o
is_handed p None = refl
is_handed p (Some s) = refl

handed : (H : Holders) (players : ℕ) (c : Corp) (p seller : Seat) (n : ℕ) → at_table players (president H c) ≡ Some p
    → is_some (handover_after_sale H players c seller n) ≡ is_some (heir (percents_after_sale H c seller n) players p)
unfolding handover_after_sale
handed H players c p seller n e =
    ap (λ (o : Option Seat). is_some (handover_by (percents_after_sale H c seller n) players o)) e
    ∙ is_handed p (heir (percents_after_sale H c seller n) players p)

-- the corporation due keeps its president where one share is sold and not several
keeps_president : (H : Holders) (players : ℕ) (due : Corp) (s : Seat) (c : Corp) (n : ℕ) (p : Seat) → players ≤ 6 → 1 ≤ n → at_table players (president H due) ≡ Some p → p.0 ≡ s.0
    → changes_president H players due s c n ≡ false → changes_president H players due s c 1 ≡ false
keeps_president H players due s c n p few some led own kept = by_test (same_corp c due) refl kept
  where
    by_test : (b : Bool) → same_corp c due ≡ b → (b && is_some (handover_after_sale H players c s n)) ≡ false → changes_president H players due s c 1 ≡ false
    by_test false e h = ap (λ (b : Bool). b && is_some (handover_after_sale H players c s 1)) e
    by_test true e h =
        let same = corp_index-injective c due (eqb-true (corp_index c) (corp_index due) e) in
        let at : at_table players (president H c) ≡ Some p = ap (λ (x : Corp). at_table players (president H x)) same ∙ led in
        ap (λ (b : Bool). b && is_some (handover_after_sale H players c s 1)) e
        ∙ handed H players c p s 1 at
        ∙ no_heir H players c p s n few (seated players (president H c) p at) some own (sym (handed H players c p s n at) ∙ h)

one_share : (h : Holdings) (due : Corp) (s : Seat) (c : Corp) (n : ℕ) (p : Seat) → h.players ≤ 6 → 1 ≤ n → at_table h.players (president h.holders due) ≡ Some p → p.0 ≡ s.0
    → share_verdict h due s c n ≡ None → share_verdict h due s c 1 ≡ None
unfolding share_verdict
one_share h due s c n p few some led own lawful =
    let both = both_none (sale_verdict h s c n) (president_verdict h.holders h.players due s c n) lawful in
    let sold = one_of_many h s c n both.0 in
    let kept = passed (changes_president h.holders h.players due s c n) H.PresidencyWouldChange None both.1 in
    ap (λ (o : Option Refusal). option_or o (president_verdict h.holders h.players due s c 1)) sold
    ∙ refuses_none (changes_president h.holders h.players due s c 1) H.PresidencyWouldChange None (keeps_president h.holders h.players due s c n p few some led own kept.0) refl

was_false : (b : Bool) → not b ≡ false → b ≡ true
was_false true e = refl
was_false false e = absurd (false≢true (sym e))

president_is : (o : Option Seat) (s : Seat) → not (is_seat o s) ≡ false → (p : Seat) × (o ≡ Some p) × (p.0 ≡ s.0)
president_is None s e = absurd (false≢true (sym e))
president_is (Some p) s e = (p, refl, eqb-true p.0 s.0 (was_false (same_seat p s) e))

one_raise : (h : Holdings) (need : Option Need) (s : Seat) (c : Corp) (n : ℕ) → h.players ≤ 6 → IsLed h need → 1 ≤ n → raise_verdict h need s c n ≡ None → raise_verdict h need s c 1 ≡ None
one_raise h None s c n few led some lawful = absurd (cc)
one_raise h (Some need) s c n few led some lawful =
    let leads = passed (not (is_seat need.president s)) H.NotYourTurn _ lawful in
    let lacks = passed (need.shortfall == 0) H.SaleNotNeeded _ leads.1 in
    let is = president_is need.president s leads.0 in
    refuses_none (not (is_seat need.president s)) H.NotYourTurn _ leads.0
    (refuses_none (need.shortfall == 0) H.SaleNotNeeded _ lacks.0 (one_share h need.corp s c n is.0 few some (sym led ∙ is.1) is.2 lacks.1))

none_from : (verdict : Option Refusal) → not (is_some verdict) ≡ true → verdict ≡ None
none_from None e = refl
none_from (Some fault) e = absurd (false≢true e)

is_none_from : (verdict : Option Refusal) → verdict ≡ None → not (is_some verdict) ≡ true
is_none_from verdict e = ap (λ (o : Option Refusal). not (is_some o)) e

-- the corporations are all in the list
there : (c : Corp) → (corp_index c < 8) × (slice_index_or corps (corp_index c) K.Prr ≡ c)
there K.Prr = (omega arith, refl)
there K.Nyc = (omega arith, refl)
there K.Cpr = (omega arith, refl)
there K.Bo = (omega arith, refl)
there K.Co = (omega arith, refl)
there K.Erie = (omega arith, refl)
there K.Nynh = (omega arith, refl)
there K.Bm = (omega arith, refl)

any_of_all : (test : Corp → Bool) (c : Corp) → test c ≡ true → list_any test corps ≡ true
any_of_all test c e = list_any_at test corps (corp_index c) K.Prr ((there c).0) (ap test ((there c).1) ∙ e)

pub one_share_suffices : OneShareSuffices
unfolding can_raise
one_share_suffices h need s few led = (
  λ found.
      let at = Any-from_list_any (raises_one h need s) corps found in
      record { corp = at.1; shares = 1; some = omega arith; lawful = none_from (raise_verdict h need s at.1 1) at.4 },
  λ sale.
      any_of_all (raises_one h need s) sale.corp
      (is_none_from (raise_verdict h need s sale.corp 1) (one_raise h need s sale.corp sale.shares few led sale.some sale.lawful)),
)
