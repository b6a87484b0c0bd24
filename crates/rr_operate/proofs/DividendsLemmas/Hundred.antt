-- No more than the whole of a corporation is held.
use Rattle.std.specs.Prelude.{◌≡◌, ℕ, zero, suc, ◌+◌, ◌*◌, ◌/◌, ◌<◌, ◌≤◌, ◌==◌, Bool, true, false, cond, List, [], ◌∷◌, ◌++◌, Option, None, Some, filter, map, sum_by, count_by, refl}
use Rattle.std.specs.List.{range_with_len}
use Rattle.std.proofs.Common.{sym, ◌∙◌, ap, inl, inr, arith}
use Rattle.std.proofs.lemmas.Bool.{cases_Bool, eqb-true}
use Rattle.std.proofs.lemmas.Bool.Decides.{nat_tests}
use Rattle.std.proofs.lemmas.List.Sums.{sum_by-append, sum_by-cons}
use Rattle.rr_roster.specs.declared.company.Corp.{Corp}
use Rattle.rr_books.specs.declared.parties.Seat.{Seat}
use Rattle.rr_books.specs.declared.parties.Place.{Place}
use Rattle.rr_books.specs.declared.parties.Place.TheVariants as L
use Rattle.rr_books.specs.declared.certificates.Cert.{Cert}
use Rattle.rr_books.specs.Book.{Book, holder, players}
use Rattle.rr_books.specs.Same.{same_place}
use Rattle.rr_books.specs.Shares.{Holders, certificates_of, is_at, percent, share}
use Rattle.rr_operate.specs.Dividends.Dividends.{seating}
use Rattle.rr_operate.specs.Dividends.DividendLaws.{NobodyIsPaidForTheOffering, percent_paid}
use Rattle.rr_operate.proofs.DividendsLemmas.Balances.{share_tens, sum_tens, tens_of, tenths}

-- the percents of these certificates that are at a place
abbrev there : Holders → List Cert → Place → ℕ
there H cs place = sum_by percent (filter (λ cert. is_at (H cert) place) cs)

first_there : (b : Bool) (x : Cert) (xs : List Cert) → sum_by percent (cond b (x ∷ xs) xs) ≡ cond b (percent x) 0 + sum_by percent xs
first_there true x xs = sum_by-cons percent x xs
first_there false x xs = omega arith

-- what is counted of one certificate and of the others, over places
split_over : (H : Holders) (x : Cert) (cs : List Cert) (ps : List Place) → sum_by (there H (x ∷ cs)) ps ≡ sum_by (λ p. cond (is_at (H x) p) (percent x) 0) ps + sum_by (there H cs) ps
split_over H x cs [] = refl
split_over H x cs (p ∷ ps) =
    let all = sum_by-cons (there H (x ∷ cs)) p ps in
    let one = sum_by-cons (λ q. cond (is_at (H x) q) (percent x) 0) p ps in
    let rest = sum_by-cons (there H cs) p ps in
    let here = first_there (is_at (H x) p) x (filter (λ cert. is_at (H cert) p) cs) in
    let more = split_over H x cs ps in
    omega arith

none_over : (H : Holders) (ps : List Place) → sum_by (there H []) ps ≡ 0
none_over H [] = refl
none_over H (p ∷ ps) =
    let one = sum_by-cons (there H []) p ps in
    let here : there H [] p ≡ 0 = refl in
    let rest = none_over H ps in
    omega arith

-- a certificate that is at one of the places at most counts once
counts_once : (at : Place → Bool) (n : ℕ) (ps : List Place) → count_by at ps ≤ 1 → sum_by (λ p. cond (at p) n 0) ps ≤ n
counts_once at n ps once = few (sum_by (λ p. cond (at p) n 0) ps) n (count_by at ps) (at_most at n ps) once
  where
    at_most : (at : Place → Bool) (n : ℕ) (ps : List Place) → sum_by (λ p. cond (at p) n 0) ps ≡ n * count_by at ps
    at_most at n [] = omega arith
    at_most at n (p ∷ ps) =
        sum_by-cons (λ q. cond (at q) n 0) p ps
        ∙ ap (λ (m : ℕ). cond (at p) n 0 + m) (at_most at n ps)
        ∙ again (at p) n (count_by at ps)
        ∙ ap (λ (m : ℕ). n * m) (sym (sum_by-cons (λ q. cond (at q) 1 0) p ps))
      where
        again : (b : Bool) (n k : ℕ) → cond b n 0 + n * k ≡ n * (cond b 1 0 + k)
        again true n k = grind (arith)
        again false n k = grind (arith)

    few : (s n k : ℕ) → s ≡ n * k → k ≤ 1 → s ≤ n
    few s n zero e h = grind (arith)
    few s n (suc k) e h =
        let none : k ≡ 0 = omega arith in
        let same : n * suc k ≡ n = ap (λ (m : ℕ). n * suc m) none ∙ grind (arith) in
        omega arith

-- places of which no certificate is at two
abbrev AreApart : List Place → Type 0
AreApart ps = (place : Option Place) → count_by (is_at place) ps ≤ 1

whole_at_most : (H : Holders) (ps : List Place) → AreApart ps → (cs : List Cert) → sum_by (there H cs) ps ≤ sum_by percent cs
whole_at_most H ps apart [] = let none = none_over H ps in omega arith
whole_at_most H ps apart (x ∷ cs) =
    let both = split_over H x cs ps in
    let one = counts_once (is_at (H x)) (percent x) ps (apart (H x)) in
    let rest = whole_at_most H ps apart cs in
    let all = sum_by-cons percent x cs in
    omega arith

-- the seats from one number on, so many
abbrev from : ℕ → ℕ → List Place
from a n = map (λ (s : Seat). L.Seat s) (map (λ k. record { 0 = k }) (range_with_len a n))

-- who holds none of the seats
none_among : (at : Place → Bool) → ((s : Seat) → at (L.Seat s) ≡ false) → (a n : ℕ) → count_by at (from a n) ≡ 0
none_among at fails a zero = refl
none_among at fails a (suc n) =
    sum_by-cons (λ p. cond (at p) 1 0) (L.Seat (record { 0 = a })) (from (a + 1) n)
    ∙ ap (λ (b : Bool). cond b 1 0 + count_by at (from (a + 1) n)) (fails (record { 0 = a }))
    ∙ ap (λ (m : ℕ). 0 + m) (none_among at fails (a + 1) n)

below_none : (s : Seat) (a n : ℕ) → s.0 < a → count_by (same_place (L.Seat s)) (from a n) ≡ 0
below_none s a zero low = refl
below_none s a (suc n) low =
    let one = sum_by-cons (λ p. cond (same_place (L.Seat s) p) 1 0) (L.Seat (record { 0 = a })) (from (a + 1) n) in
    let rest = below_none s (a + 1) n (omega arith) in
    one ∙ ap (λ (m : ℕ). cond (s.0 == a) 1 0 + m) rest ∙ ap (λ (b : Bool). cond b 1 0 + 0) (apart s.0 a low)
  where
    apart : (t k : ℕ) → t < k → (t == k) ≡ false
    apart t k h = grind (arith, nat_tests)

seat_once : (s : Seat) (a n : ℕ) → count_by (same_place (L.Seat s)) (from a n) ≤ 1
seat_once s a zero = omega arith
seat_once s a (suc n) =
    let one = sum_by-cons (λ p. cond (same_place (L.Seat s) p) 1 0) (L.Seat (record { 0 = a })) (from (a + 1) n) in
    elim (cases_Bool (s.0 == a)) [
      | inl same ↦
          let here : s.0 ≡ a = eqb-true s.0 a same in
          let rest = below_none s (a + 1) n (omega arith) in
          let first = weight_le (s.0 == a) in
          omega arith
      | inr other ↦
          let rest = seat_once s (a + 1) n in
          let first = weight_none (s.0 == a) other in
          omega arith
    ]
  where
    weight_le : (b : Bool) → cond b 1 0 ≤ 1
    weight_le true = omega arith
    weight_le false = omega arith

    weight_none : (b : Bool) → b ≡ false → cond {A = ℕ} b 1 0 ≡ 0
    weight_none b e = ap (λ (x : Bool). cond {A = ℕ} x 1 0) e

-- the seats of a table, the pool and the offering
abbrev places : ℕ → List Place
places n = from 0 n ++ L.Pool ∷ L.Offer ∷ []

in_all : (at : Place → Bool) (n : ℕ) → count_by at (places n) ≡ count_by at (from 0 n) + (cond (at L.Pool) 1 0 + cond (at L.Offer) 1 0)
in_all at n =
    let both = sum_by-append (λ p. cond (at p) 1 0) (from 0 n) (L.Pool ∷ L.Offer ∷ []) in
    let pool = sum_by-cons (λ p. cond (at p) 1 0) L.Pool (L.Offer ∷ []) in
    let offer = sum_by-cons (λ p. cond (at p) 1 0) L.Offer [] in
    omega arith

are_apart : (n : ℕ) → AreApart (places n)
are_apart n None = let all = in_all (is_at None) n in let none = none_among (is_at None) (λ s. refl) 0 n in omega arith
are_apart n (Some (L.Seat s)) = let all = in_all (same_place (L.Seat s)) n in let one = seat_once s 0 n in omega arith
are_apart n (Some (L.Corp c)) = let all = in_all (same_place (L.Corp c)) n in let none = none_among (same_place (L.Corp c)) (λ s. refl) 0 n in omega arith
are_apart n (Some L.Offer) = let all = in_all (same_place L.Offer) n in let none = none_among (same_place L.Offer) (λ s. refl) 0 n in omega arith
are_apart n (Some L.Pool) = let all = in_all (same_place L.Pool) n in let none = none_among (same_place L.Pool) (λ s. refl) 0 n in omega arith
are_apart n (Some L.Gone) = let all = in_all (same_place L.Gone) n in let none = none_among (same_place L.Gone) (λ s. refl) 0 n in omega arith

sum_over_seats : (f : Place → ℕ) (ss : List Seat) → sum_by f (map (λ (s : Seat). L.Seat s) ss) ≡ sum_by (λ s. f (L.Seat s)) ss
sum_over_seats f [] = refl
sum_over_seats f (s ∷ ss) =
    sum_by-cons f (L.Seat s) (map (λ (t : Seat). L.Seat t) ss)
    ∙ ap (λ (n : ℕ). f (L.Seat s) + n) (sum_over_seats f ss)
    ∙ sym (sum_by-cons (λ t. f (L.Seat t)) s ss)

-- seats, pool and offering have no more than the whole
pub at_most_the_whole : (book : Book) (c : Corp) → percent_paid book c + share (holder book) L.Offer c ≤ 100
unfolding share
at_most_the_whole book c =
    let f = there (holder book) (certificates_of c) in
    let most = whole_at_most (holder book) (places (players book)) (are_apart (players book)) (certificates_of c) in
    let both = sum_by-append f (from 0 (players book)) (L.Pool ∷ L.Offer ∷ []) in
    let pool = sum_by-cons f L.Pool (L.Offer ∷ []) in
    let offer = sum_by-cons f L.Offer [] in
    let seats = sum_over_seats f (seating (players book)) in
    let hundred : sum_by percent (certificates_of c) ≡ 100 = refl in
    omega arith

paid_tens : (book : Book) (c : Corp) → percent_paid book c ≡ 10 * (sum_by (λ s. tenths (holder book) (L.Seat s) c) (seating (players book)) + tenths (holder book) L.Pool c)
paid_tens book c =
    let seats = sum_tens (λ (s : Seat). share (holder book) (L.Seat s) c) (λ (s : Seat). tenths (holder book) (L.Seat s) c) (λ s. share_tens (holder book) (L.Seat s) c) (seating (players book)) in
    let pool = share_tens (holder book) L.Pool c in
    omega arith

-- two parts of a revenue
two_parts : (t p q a b : ℕ) → p ≡ 10 * a → q ≡ 10 * b → 10 * t * p / 100 + 10 * t * q / 100 ≡ t * (a + b)
two_parts t p q a b e f =
    ap (λ (n : ℕ). 10 * t * n / 100 + 10 * t * q / 100) e
    ∙ ap (λ (n : ℕ). 10 * t * (10 * a) / 100 + 10 * t * n / 100) f
    ∙ ap (λ (n : ℕ). n + 10 * t * (10 * b) / 100) (tens_of t a)
    ∙ ap (λ (n : ℕ). t * a + n) (tens_of t b)
    ∙ grouped t a b
  where
    grouped : (t a b : ℕ) → t * a + t * b ≡ t * (a + b)
    grouped t a b = grind (arith)

pub nobody_is_paid_for_the_offering : NobodyIsPaidForTheOffering
nobody_is_paid_for_the_offering book c t =
    let a = sum_by (λ s. tenths (holder book) (L.Seat s) c) (seating (players book)) + tenths (holder book) L.Pool c in
    let b = tenths (holder book) L.Offer c in
    let paid = paid_tens book c in
    let offered = share_tens (holder book) L.Offer c in
    let parts = two_parts t (percent_paid book c) (share (holder book) L.Offer c) a b paid offered in
    let most = at_most_the_whole book c in
    record {
      offering = within t (a + b) parts (omega arith);
      whole = λ all. parts ∙ full t (a + b) (omega arith);
    }
  where
    within : (t n : ℕ) → {s : ℕ} → s ≡ t * n → n ≤ 10 → s ≤ 10 * t
    within t n e h = grind (arith)

    full : (t n : ℕ) → n ≡ 10 → t * n ≡ 10 * t
    full t n e = rw e (grind (arith))
