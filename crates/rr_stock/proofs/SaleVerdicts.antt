-- What a lawful sale tells of the seller's shares.
use Rattle.std.specs.Prelude.{◌≡◌, ℕ, zero, suc, ◌+◌, ◌-◌, ◌*◌, ◌<◌, ◌≤◌, ◌==◌, ◌⊎◌, nat_le, nat_lt, not, Bool, true, false, ◌&&◌, ◌||◌, List, Option, None, Some, is_some, option_map, refl, if◌then◌else◌}
use Rattle.std.specs.List.{list_any, range_with_len}
use Rattle.std.specs.Option.{option_or}
use Rattle.std.proofs.Common.{sym, ◌∙◌, ap, arith, inl, inr}
use Rattle.std.proofs.lemmas.Bool.{and_parts, eq-eqb, false≢true}
use Rattle.std.proofs.lemmas.Bool.Decides.{nat_tests}
use Rattle.rr_roster.specs.declared.company.Corp.{Corp}
use Rattle.rr_roster.specs.Chart.Chart.{Row}
use Rattle.rr_books.specs.declared.parties.Seat.{Seat}
use Rattle.rr_books.specs.declared.parties.Place.{Place}
use Rattle.rr_books.specs.declared.parties.Place.TheVariants as L
use Rattle.rr_books.specs.declared.certificates.Cert.TheVariants as C
use Rattle.rr_books.specs.declared.acts.Act.TheVariants as A
use Rattle.rr_books.specs.Book.{Book, holder, players}
use Rattle.rr_books.specs.Same.{same_seat}
use Rattle.rr_books.specs.Shares.{is_at, share}
use Rattle.rr_shares.specs.Presidents.{IsPresident}
use Rattle.rr_shares.specs.Sales.{AnotherHasTwenty, MaySell}
use Rattle.rr_books.specs.declared.refusal.Refusal.TheVariants as H
use Rattle.rr_shares.specs.Limits.Holdings.{percent_of}
use Rattle.rr_shares.specs.Limits.Sales.{has_successor, is_successor, leaves_no_president, sale_verdict}
use Rattle.rr_rounds.specs.Round.{is_first}
use Rattle.rr_stock.specs.Rules as rules
use Rattle.rr_stock.specs.Situation.{situation_of}

-- a test in a chain that refuses nothing
pub passed : {F : Type 0} (b : Bool) (fault : F) (others : Option F) → (if b then Some fault else others) ≡ None → (b ≡ false) × (others ≡ None)
passed true fault others e = absurd (cc)
passed false fault others e = (refl, e)

pub neither : {F : Type 0} (first second : Option F) → option_or first second ≡ None → second ≡ None
neither None second e = e
neither (Some fault) second e = absurd (cc)

pub none_before : {X Y : Type 0} (f : X → Y) (o : Option X) → option_map f o ≡ None → o ≡ None
none_before f None e = refl
none_before f (Some x) e = absurd (cc)

some_if : (test : ℕ → Bool) (a m : ℕ) (b others : Bool) → test a ≡ b → (others ≡ true → (k : ℕ) × (test k ≡ true) × (k < a + 1 + m)) → (b || others) ≡ true → (k : ℕ) × (test k ≡ true) × (k < a + suc m)
some_if test a m true others is later h = (a, is, omega arith)
some_if test a m false others is later h = let rest = later h in let below = rest.2 in (rest.0, rest.1, omega arith)

some_of : (test : ℕ → Bool) (a m : ℕ) → list_any test (range_with_len a m) ≡ true → (k : ℕ) × (test k ≡ true) × (k < a + m)
some_of test a zero e = absurd (false≢true e)
some_of test a (suc m) e = some_if test a m (test a) (list_any test (range_with_len (a + 1) m)) refl (λ h. some_of test (a + 1) m h) e

one_of : (a b d : Bool) → (a && b && d) ≡ false → a ≡ true → (b ≡ false) ⊎ (d ≡ false)
one_of true true true e h = inr e
one_of true true false e h = inr refl
one_of true false d e h = inl refl
one_of false b d e h = absurd (false≢true h)

not_short : (m k : ℕ) → nat_lt m k ≡ false → k ≤ m
not_short m k e = grind (arith, nat_tests)

enough_of : (k m : ℕ) → nat_le k m ≡ true → k ≤ m
enough_of k m e = grind (arith, nat_tests)

another_of : (m n : ℕ) → not (m == n) ≡ true → m ≡ n → ⊥
another_of m n e same = grind (arith, nat_tests)

was_false : (b : Bool) → not b ≡ false → b ≡ true
was_false true e = refl
was_false false e = absurd (false≢true (sym e))

kept_enough : (left all sold : ℕ) → left ≡ all - sold → 20 ≤ left → 20 + sold ≤ all
kept_enough left all sold is h = omega arith

successor_of : (book : Book) (s : Seat) (c : Corp) → has_successor (players book) (holder book) s c ≡ true → AnotherHasTwenty book c s
unfolding has_successor
successor_of book s c e =
    let found = some_of (λ k. is_successor (holder book) s c (record { 0 = k })) 0 (players book) e in
    let k = found.0 in
    let both = and_parts (not (same_seat (record { 0 = k }) s)) (nat_le 20 (share (holder book) (L.Seat (record { 0 = k })) c)) found.1 in
    let below = found.2 in
    record {
      seat = record { 0 = k };
      at_table = omega arith;
      another = another_of k s.0 both.0;
      enough = enough_of 20 (share (holder book) (L.Seat (record { 0 = k })) c) both.1;
    }

-- the seller holds what it sells, and somebody can be president afterwards
pub may_sell : (rows : List Row) (book : Book) (p s : Seat) (c : Corp) (n : ℕ) → rules.verdict rows book (A.Sell s c n) ≡ None → IsPresident book c p → MaySell book c p s n
unfolding rules.sale_verdict
may_sell rows book p s c n lawful e =
    let t = situation_of rows book in
    let h = t.holdings in
    let judged = (neither (rules.turn_verdict t.progress s) _ lawful) in
    let later = passed (is_first t.progress) H.FirstStockRound (sale_verdict h s c n) judged in
    let priced = passed (not (is_some (h.prices c))) H.NotForSale _ later.1 in
    let some = passed (n == 0) H.NotForSale _ priced.1 in
    let held = passed (nat_lt (percent_of h s c) (10 * n)) H.NotForSale _ some.1 in
    let left = percent_of h s c - 10 * n in
    let kept = passed (leaves_no_president h.players h.holders s c left) H.NotForSale _ held.1 in
    record {
      holds = not_short (share (holder book) (L.Seat s) c) (10 * n) held.0;
      leaves = λ same.
          let presides : is_at (holder book (C.President c)) (L.Seat s) ≡ true = ap (λ (x : Option Place). is_at x (L.Seat s)) e ∙ eq-eqb p.0 s.0 same in
          elim (one_of (is_at (holder book (C.President c)) (L.Seat s)) (nat_lt left 20) (not (has_successor (players book) (holder book) s c)) kept.0 presides) [
            | inl enough ↦ inl (kept_enough left (share (holder book) (L.Seat s) c) (10 * n) refl (not_short left 20 enough))
            | inr other ↦ inr (successor_of book s c (was_false (has_successor (players book) (holder book) s c) other))
          ];
    }
