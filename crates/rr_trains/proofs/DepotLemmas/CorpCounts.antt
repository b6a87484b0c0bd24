-- The trains of all corporations, counted in one pass.
use Rattle.std.specs.Prelude.{◌≡◌, ℕ, zero, suc, ◌+◌, ◌*◌, ◌<◌, ◌≤◌, ◌&&◌, Bool, true, false, List, [], ◌∷◌, None, Some, slice_index_or, sum_by, count_by, nat_lt, nat_le, refl}
use Rattle.std.specs.List.{range_with_len}
use Rattle.std.proofs.Common.{◌∙◌, ap, sym, cond, arith, get_or, take, length-take}
use Rattle.std.proofs.lemmas.Bool.Decides.{nat_tests}
use Rattle.std.proofs.lemmas.List.{take_all}
use Rattle.std.proofs.lemmas.List.FromFn.{get_or-range_with_len}
use Rattle.std.proofs.lemmas.List.Sums.{sum_by-cons, count_by-le-length, sum_by_more}
use Rattle.rr_roster.specs.declared.company.Kind.{Kind}
use Rattle.rr_roster.specs.Company.{kinds}
use Rattle.rr_books.specs.declared.parties.Place.{Place}
use Rattle.rr_books.specs.declared.parties.Place.TheVariants as L
use Rattle.rr_books.specs.Shares.{is_at}
use Rattle.rr_books.specs.State.{State, count_of, train_index, train_place_of}
use Rattle.rr_market.specs.Operations.Phases.{TrainHolders, train, train_numbers}
use Rattle.rr_trains.specs.Places.{is_train_at, trains_at, trains_held}

-- the trains of a kind whose numbers were looked at
pub seen_at : State → Place → Kind → ℕ → ℕ
seen_at s place kind numbers = count_by (λ n. is_train_at (train_place_of s) place (train kind n)) (take numbers train_numbers)

pub seen_none : (s : State) (place : Place) (kind : Kind) → seen_at s place kind 0 ≡ 0
unfolding seen_at
seen_none s place kind = refl

pub seen_next : (s : State) (place : Place) (kind : Kind) (i : ℕ) → i < 20
    → seen_at s place kind (i + 1) ≡ seen_at s place kind i + cond {A = ℕ} (is_train_at (train_place_of s) place (train kind (i + 1))) 1 0
unfolding seen_at
seen_next s place kind i within =
    let test = λ (n : ℕ). is_train_at (train_place_of s) place (train kind n) in
    sum_by_more (λ n. cond (test n) 1 0) train_numbers i 0 within
    ∙ ap (λ (n : ℕ). count_by test (take i train_numbers) + cond {A = ℕ} (test n) 1 0) (numbered i within)
  where
    numbered : (i : ℕ) → i < 20 → get_or train_numbers i 0 ≡ i + 1
    numbered i within = get_or-range_with_len 1 20 i 0 within ∙ omega arith

pub seen_few : (s : State) (place : Place) (kind : Kind) (i : ℕ) → i ≤ 20 → seen_at s place kind i ≤ 20
unfolding seen_at
seen_few s place kind i within =
    let few = count_by-le-length (λ n. is_train_at (train_place_of s) place (train kind n)) (take i train_numbers) in
    omega (arith, few, length-take i train_numbers, within)

-- where a test passes no number past the first few, all that pass are among these
none_passing : (test : ℕ → Bool) (a n : ℕ) → ((m : ℕ) → a ≤ m → test m ≡ false) → count_by test (range_with_len a n) ≡ 0
none_passing test a zero past = refl
none_passing test a (suc n) past =
    sum_by-cons (λ m. cond (test m) 1 0) a (range_with_len (a + 1) n)
    ∙ ap (λ (b : Bool). cond {A = ℕ} b 1 0 + count_by test (range_with_len (a + 1) n)) (past a (omega arith))
    ∙ omega (arith, none_passing test (a + 1) n (λ m h. past m (omega (arith, h))))

passing_first : (test : ℕ → Bool) (a k n : ℕ) → ((m : ℕ) → a + k ≤ m → test m ≡ false) → count_by test (take k (range_with_len a n)) ≡ count_by test (range_with_len a n)
passing_first test a zero n past = sym (none_passing test a n (λ m h. past m (omega (arith, h))))
passing_first test a (suc k) zero past = refl
passing_first test a (suc k) (suc n) past =
    sum_by-cons (λ m. cond (test m) 1 0) a (take k (range_with_len (a + 1) n))
    ∙ ap (λ (rest : ℕ). cond {A = ℕ} (test a) 1 0 + rest) (passing_first test (a + 1) k n (λ m h. past m (omega (arith, h))))
    ∙ sym (sum_by-cons (λ m. cond (test m) 1 0) a (range_with_len (a + 1) n))

no_such_train : (s : State) (place : Place) (kind : Kind) (n : ℕ) → count_of s kind < n → is_train_at (train_place_of s) place (train kind n) ≡ false
no_such_train s place kind n past = none (nat_le n (count_of s kind)) refl
  where
    none : (within : Bool) → nat_le n (count_of s kind) ≡ within → is_at (cond (nat_lt 0 n && within) (Some (slice_index_or s.trains (train_index (train kind n)) L.Offer)) None) place ≡ false
    none true e = absurd (grind (arith, nat_tests))
    none false e = both (nat_lt 0 n)
      where
        both : (b : Bool) → is_at (cond (b && false) (Some (slice_index_or s.trains (train_index (train kind n)) L.Offer)) None) place ≡ false
        both true = refl
        both false = refl

-- there are no more
pub seen_all : (s : State) (place : Place) (kind : Kind) → seen_at s place kind (count_of s kind) ≡ trains_at (train_place_of s) place kind
unfolding seen_at trains_at
seen_all s place kind = passing_first (λ n. is_train_at (train_place_of s) place (train kind n)) 1 (count_of s kind) 20 (λ m h. no_such_train s place kind m (omega (arith, h)))

at_most_twenty : (trains : TrainHolders) (place : Place) (kind : Kind) → trains_at trains place kind ≤ 20
unfolding trains_at
at_most_twenty trains place kind = count_by-le-length (λ n. is_train_at trains place (train kind n)) train_numbers

-- the trains of the first few kinds
pub kinds_few : (trains : TrainHolders) (place : Place) (i : ℕ) → i ≤ 6 → sum_by (trains_at trains place) (take i kinds) ≤ 20 * i
kinds_few trains place i within = few kinds i
  where
    few : (list : List Kind) (n : ℕ) → sum_by (trains_at trains place) (take n list) ≤ 20 * n
    few list zero = omega arith
    few [] (suc n) = omega arith
    few (kind ∷ list) (suc n) =
        let rest = few list n in
        let one = at_most_twenty trains place kind in
        omega (arith, sum_by-cons (trains_at trains place) kind (take n list), rest, one)

pub kinds_all : (trains : TrainHolders) (place : Place) (i : ℕ) → 6 ≤ i → sum_by (trains_at trains place) (take i kinds) ≡ trains_held trains place
unfolding trains_held
kinds_all trains place i all = ap (sum_by (trains_at trains place)) (take_all i kinds all)
