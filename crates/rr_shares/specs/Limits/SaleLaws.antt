-- One share can be sold wherever several can.
use Rattle.std.specs.Prelude.{◌≡◌, ℕ, ◌+◌, ◌-◌, ◌*◌, ◌<◌, ◌≤◌, ◌==◌, Bool, true, false, not, nat_lt, ◌&&◌, IsTrue, ◌↔◌, Option, None, Some, is_some, slice_index_or, refl, if◌then◌else◌}
use Rattle.std.specs.List.{list_any}
use Rattle.std.proofs.Common.{◌∙◌, ap, arith}
use Rattle.std.proofs.lemmas.Bool.{eqb-false, ltb-false, le-ltb, and_right}
use Rattle.std.proofs.lemmas.Bool.Decides.{nat_tests}
use Rattle.std.proofs.lemmas.List.Folds.{Any-from_list_any, list_any_at}
use Rattle.rr_roster.specs.declared.company.Corp.{Corp}
use Rattle.rr_roster.specs.declared.company.Corp.TheVariants as C
use Rattle.rr_roster.specs.Company.{corps, corp_index}
use Rattle.rr_books.specs.declared.parties.Seat.{Seat}
use Rattle.rr_books.specs.declared.parties.Place.TheVariants as L
use Rattle.rr_books.specs.declared.certificates.Cert.TheVariants as K
use Rattle.rr_books.specs.Shares.{is_at, share}
use Rattle.rr_books.specs.declared.refusal.Refusal.{Refusal}
use Rattle.rr_books.specs.declared.refusal.Refusal.TheVariants as F
use Rattle.rr_shares.specs.Limits.Holdings.{Holdings, percent_of}
use Rattle.rr_shares.specs.Limits.Sales.{HasLawfulSale, has_lawful_sale, has_successor, leaves_no_president, sale_verdict, sell_verdict, sells_one}

-- some sale is lawful exactly where a sale of one share is
abbrev pub OneShareSuffices : Type 0
OneShareSuffices = (h : Holdings) (is_first : Bool) (s : Seat) → IsTrue (has_lawful_sale h is_first s) ↔ HasLawfulSale h is_first s

-- the verdict on a sale by what it looks at: a price, no share, too few, nobody to follow, too many in the pool
abbrev verdict_by : Bool → Bool → Bool → Bool → Bool → Option Refusal
verdict_by priced none short abandoned full =
    if not priced then Some F.NotForSale
    else if none then Some F.NotForSale
    else if short then Some F.NotForSale
    else if abandoned then Some F.NotForSale
    else if full then Some F.PoolOverHalf
    else None

-- what it looks at where it has none
record Passes (priced none short abandoned full : Bool) : Type 0 where
  has_price : priced ≡ true
  is_some_share : none ≡ false
  is_held : short ≡ false
  is_led : abandoned ≡ false
  has_room : full ≡ false

passes : (priced none short abandoned full : Bool) → verdict_by priced none short abandoned full ≡ None → Passes priced none short abandoned full
passes true false false false false e = record { has_price = refl; is_some_share = refl; is_held = refl; is_led = refl; has_room = refl }
passes false none short abandoned full e = cc
passes true true short abandoned full e = cc
passes true false true abandoned full e = cc
passes true false false true full e = cc
passes true false false false true e = cc

passed : (priced none short abandoned full : Bool) → Passes priced none short abandoned full → verdict_by priced none short abandoned full ≡ None
passed priced none short abandoned full t = rw (t.has_price, t.is_some_share, t.is_held, t.is_led, t.has_room) refl

-- who is left with more leaves the corporation with a president too
still_led : (president alone : Bool) (less more : ℕ) → less ≤ more → (president && nat_lt less 20 && alone) ≡ false → (president && nat_lt more 20 && alone) ≡ false
still_led false alone less more le e = refl
still_led true false less more le e = and_right (nat_lt more 20) false refl
still_led true true less more le e = grind (arith, nat_tests)

-- one share can be sold where so many can
one_of_many : (h : Holdings) (s : Seat) (c : Corp) (n : ℕ) → sale_verdict h s c n ≡ None → sale_verdict h s c 1 ≡ None
one_of_many h s c n lawful =
    let held = percent_of h s c in
    let pool = share h.holders L.Pool c in
    let president = is_at (h.holders (K.President c)) (L.Seat s) in
    let alone = not (has_successor h.players h.holders s c) in
    let t = passes (is_some (h.prices c)) (n == 0) (nat_lt held (10 * n)) (leaves_no_president h.players h.holders s c (held - 10 * n)) (nat_lt 50 (pool + 10 * n)) lawful in
    let some : n ≡ 0 → ⊥ = eqb-false n 0 t.is_some_share in
    let enough : 10 * n ≤ held = ltb-false held (10 * n) t.is_held in
    let room : pool + 10 * n ≤ 50 = ltb-false 50 (pool + 10 * n) t.has_room in
    passed (is_some (h.prices c)) false (nat_lt held 10) (leaves_no_president h.players h.holders s c (held - 10)) (nat_lt 50 (pool + 10)) (record {
      has_price = t.has_price;
      is_some_share = refl;
      is_held = le-ltb held 10 (omega arith);
      is_led = still_led president alone (held - 10 * n) (held - 10) (omega arith) t.is_led;
      has_room = le-ltb 50 (pool + 10) (omega arith);
    })

one_of_many_in_round : (h : Holdings) (is_first : Bool) (s : Seat) (c : Corp) (n : ℕ) → sell_verdict h is_first s c n ≡ None → sell_verdict h is_first s c 1 ≡ None
one_of_many_in_round h true s c n lawful = lawful
one_of_many_in_round h false s c n lawful = one_of_many h s c n lawful

none_from : (verdict : Option Refusal) → not (is_some verdict) ≡ true → verdict ≡ None
none_from None e = refl
none_from (Some fault) e = cc

is_none_from : (verdict : Option Refusal) → verdict ≡ None → not (is_some verdict) ≡ true
is_none_from verdict e = rw e refl

-- the corporations are all in the list
there : (c : Corp) → (corp_index c < 8) × (slice_index_or corps (corp_index c) C.Prr ≡ c)
there C.Prr = (omega arith, refl)
there C.Nyc = (omega arith, refl)
there C.Cpr = (omega arith, refl)
there C.Bo = (omega arith, refl)
there C.Co = (omega arith, refl)
there C.Erie = (omega arith, refl)
there C.Nynh = (omega arith, refl)
there C.Bm = (omega arith, refl)

any_of_all : (test : Corp → Bool) (c : Corp) → test c ≡ true → list_any test corps ≡ true
any_of_all test c e = list_any_at test corps (corp_index c) C.Prr ((there c).0) (ap test ((there c).1) ∙ e)

pub one_share_suffices : OneShareSuffices
unfolding has_lawful_sale
one_share_suffices h is_first s = (
  λ found.
      let at = Any-from_list_any (sells_one h is_first s) corps found in
      record { corp = at.1; shares = 1; lawful = none_from (sell_verdict h is_first s at.1 1) at.4 },
  λ sale. any_of_all (sells_one h is_first s) sale.corp (is_none_from (sell_verdict h is_first s sale.corp 1) (one_of_many_in_round h is_first s sale.corp sale.shares sale.lawful)),
)
