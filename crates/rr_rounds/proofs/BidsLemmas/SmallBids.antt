-- Bids of no more than ten digits.
use Rattle.std.specs.Prelude.{◌≡◌, ℕ, ◌<◌, ◌≤◌, Bool, true, false, List, [], ◌∷◌, IfSome, Option, None, Some, ◌⊎◌, find, fold, is_some, length, max, slice_index, refl, ◌==◌, ◌&&◌}
use Rattle.std.proofs.Common.{sym, ◌∙◌, ap, subst, cond, arith, set, get_or, inl, inr, zero, suc}
use Rattle.std.proofs.lemmas.Bool.{cases_eq, cases_lt}
use Rattle.std.proofs.lemmas.List.{get_or-set_other, set_past}
use Rattle.std.proofs.lemmas.Grind.{get_or-set_at}
use Rattle.rr_roster.specs.declared.company.Private.{Private}
use Rattle.rr_roster.specs.Company.{private_index}
use Rattle.rr_books.specs.declared.parties.Seat.{Seat}
use Rattle.rr_rounds.specs.Bids.Bids.{Bids, Row, all_seats, bid_in, bid_of, has_bid, bids_on, highest, leader, no_bids, raiser, sole_bidder, with_bid}
use Rattle.rr_rounds.specs.Bids.Progress.{AreSmall}

-- each private has a row
pub row_in : (p : Private) → private_index p < 6
row_in Private.Sv = omega arith
row_in Private.Csl = omega arith
row_in Private.Dh = omega arith
row_in Private.Mh = omega arith
row_in Private.Ca = omega arith
row_in Private.Bo = omega arith

-- one more bid changes at most that one
changed : (b : List (List ℕ)) (i j k m n : ℕ) → (get_or (get_or (set b i (set (get_or b i []) j n)) k []) m 0 ≡ get_or (get_or b k []) m 0) ⊎ ((k ≡ i) × (m ≡ j) × (get_or (get_or (set b i (set (get_or b i []) j n)) k []) m 0 ≡ n))
changed b i j k m n =
    let row : List ℕ = set (get_or b i []) j n in
    let at = λ (r : List ℕ). get_or r m 0 in
    elim (cases_eq k i) [
      | inr other ↦ inl (ap at (get_or-set_other b i k row [] other))
      | inl e ↦ elim (cases_lt i (length b)) [
        | inr past ↦ inl (ap (λ (x : List (List ℕ)). get_or (get_or x k []) m 0) (set_past b i row past))
        | inl within ↦
            let here : get_or (set b i row) k [] ≡ row = get_or-set_at b i k row [] e within in
            let same : get_or b i [] ≡ get_or b k [] = ap (λ (x : ℕ). get_or b x []) (sym e) in
            elim (cases_eq m j) [
              | inr other ↦ inl (ap at here ∙ get_or-set_other (get_or b i []) j m n 0 other ∙ ap at same)
              | inl f ↦ elim (cases_lt j (length (get_or b i []))) [
                | inr past ↦ inl (ap at (here ∙ set_past (get_or b i []) j n past ∙ same))
                | inl inside ↦ inr (e, f, ap at here ∙ get_or-set_at (get_or b i []) j m n 0 f inside)
              ]
            ]
      ]
    ]

-- a bid more, as small as those before
pub small_with : (bids : Bids) (p : Private) (s : Seat) (n : ℕ) → n ≤ 10000000000 → AreSmall bids → AreSmall (with_bid bids p s n)
small_with bids p s n low small q t = elim (changed bids (private_index p) s.0 (private_index q) t.0 n) [
  | inl e ↦ omega (arith, small q t)
  | inr w ↦ omega (arith, w.2)
]

-- none
zeros : (k : ℕ) → slice_index (0 ∷ 0 ∷ 0 ∷ 0 ∷ 0 ∷ 0 ∷ []) k ≡ 0
zeros zero = refl
zeros (suc zero) = refl
zeros (suc (suc zero)) = refl
zeros (suc (suc (suc zero))) = refl
zeros (suc (suc (suc (suc zero)))) = refl
zeros (suc (suc (suc (suc (suc zero))))) = refl
zeros (suc (suc (suc (suc (suc (suc k)))))) = refl

no_bid : (p : Private) (s : Seat) → bid_of no_bids p s ≡ 0
no_bid Private.Sv s = zeros s.0
no_bid Private.Csl s = zeros s.0
no_bid Private.Dh s = zeros s.0
no_bid Private.Mh s = zeros s.0
no_bid Private.Ca s = zeros s.0
no_bid Private.Bo s = zeros s.0

pub small_none : AreSmall no_bids
small_none p s = omega (arith, no_bid p s)

-- no bid of a row is higher than all may be
pub highest_small : (row : Row) (n : ℕ) → ((k : ℕ) → get_or row k 0 ≤ n) → (m : ℕ) → m ≤ n → fold max m row ≤ n
highest_small [] n h m low = low
highest_small (x ∷ xs) n h m low = highest_small xs n (λ k. h (suc k)) (max m x) (omega (arith, h 0))

-- the highest bid on a private
pub highest_small_on : (bids : Bids) (p : Private) → AreSmall bids → highest (bids_on bids p) ≤ 10000000000
unfolding highest
highest_small_on bids p small = highest_small (bids_on bids p) 10000000000 (λ k. small p (record { 0 = k })) 0 (omega arith)

-- whoever is found among the seats is one that a table may have
abbrev AreLow : List Seat → Type 0
AreLow [] = Unit {0}
AreLow (s ∷ ss) = (s.0 < 6) × AreLow ss

found_low : (test : Seat → Bool) (xs : List Seat) (s : Seat) → AreLow xs → find test xs ≡ Some s → s.0 < 6
found_low test [] s low h = absurd (cc)
found_low test (x ∷ xs) s low h = by_test (test x) (λ k. found_low test xs s low.1 k) h
  where
    by_test : (b : Bool) → (find test xs ≡ Some s → s.0 < 6) → cond b (Some x) (find test xs) ≡ Some s → s.0 < 6
    by_test true later k = let same : x ≡ s = cc in let Low : Seat → Type 0 = λ t. t.0 < 6 in subst Low same low.0
    by_test false later k = later k

leader_low : (row : Row) (s : Seat) → leader row ≡ Some s → s.0 < 6
unfolding leader
leader_low row s h =
    let low : AreLow all_seats = (omega arith, (omega arith, (omega arith, (omega arith, (omega arith, (omega arith, tt)))))) in
    found_low (λ x. has_bid row x && (bid_in row x == highest row)) all_seats s low h

sole_low : (row : Row) (s : Seat) → sole_bidder row ≡ Some s → s.0 < 6
sole_low row s h = by_test (is_some (raiser row)) h
  where
    by_test : (b : Bool) → cond b None (leader row) ≡ Some s → s.0 < 6
    by_test true k = absurd (cc)
    by_test false k = leader_low row s k

-- the only bidder too
pub if_sole : (o : Option Seat) (row : Row) → o ≡ sole_bidder row → IfSome o (λ s. s.0 < 6)
if_sole None row e = tt
if_sole (Some s) row e = sole_low row s (sym e)
