-- Numbers are ranks exactly where they are eight and the test says so.
use Rattle.std.specs.List.{list_any}
use Rattle.std.proofs.Common.{◌≡◌, ◌≢◌, ℕ, ◌<◌, ◌==◌, true, false, zero, suc, inl, inr, List, [], ◌∷◌, length, get_or, refl, sym, arith}
use Rattle.std.proofs.lemmas.Bool.{cases_lt, eqb-false, or_parts}
use Rattle.std.proofs.lemmas.Bool.Decides.{nat_tests}
use Rattle.rr_market.specs.Arrivals.{AreRanks, are_ranks}

-- no rank is among those that come after it
apart_from_later : (rank : ℕ) (others : List ℕ) (j : ℕ) → list_any (λ other. other == rank) others ≡ false → j < length others → rank ≢ get_or others j 0
apart_from_later rank [] j none within = absurd (omega (arith, within))
apart_from_later rank (other ∷ others) zero none within = λ same. eqb-false other rank (or_parts (other == rank) (list_any (λ x. x == rank) others) none).0 (sym same)
apart_from_later rank (other ∷ others) (suc j) none within = apart_from_later rank others j (or_parts (other == rank) (list_any (λ x. x == rank) others) none).1 (omega (arith, within))

tested_below : (ranks : List ℕ) (k : ℕ) → are_ranks ranks ≡ true → k < length ranks → get_or ranks k 0 < 8
tested_below [] k h within = absurd (omega (arith, within))
tested_below (rank ∷ others) zero h within = grind (arith, nat_tests)
tested_below (rank ∷ others) (suc k) h within =
    let more : are_ranks others ≡ true = grind (arith, nat_tests) in
    tested_below others k more (omega (arith, within))

tested_apart : (ranks : List ℕ) (j k : ℕ) → are_ranks ranks ≡ true → j < k → k < length ranks → get_or ranks j 0 ≢ get_or ranks k 0
tested_apart [] j k h before within = absurd (omega (arith, within))
tested_apart (rank ∷ others) j zero h before within = absurd (omega (arith, before))
tested_apart (rank ∷ others) zero (suc k) h before within =
    let none : list_any (λ other. other == rank) others ≡ false = grind (arith, nat_tests) in
    apart_from_later rank others k none (omega (arith, within))
tested_apart (rank ∷ others) (suc j) (suc k) h before within =
    let more : are_ranks others ≡ true = grind (arith, nat_tests) in
    tested_apart others j k more (omega (arith, before)) (omega (arith, within))

pub ranks_tested : (ranks : List ℕ) → length ranks ≡ 8 → are_ranks ranks ≡ true → AreRanks ranks
ranks_tested ranks eight h = record {
  eight = eight;
  below = λ k within. tested_below ranks k h (omega (arith, eight, within));
  different = λ j k first second apart.
      elim (cases_lt j k) [
        | inl before ↦ tested_apart ranks j k h before (omega (arith, eight, second))
        | inr behind ↦ λ same. tested_apart ranks k j h (omega (arith, behind, apart)) (omega (arith, eight, first)) (sym same)
      ];
}

-- a number that is apart from each of a row isn't among them
none_among : (rank : ℕ) (others : List ℕ) → ((k : ℕ) → k < length others → rank ≢ get_or others k 0) → list_any (λ other. other == rank) others ≡ false
none_among rank [] apart = refl
none_among rank (other ∷ others) apart =
    let here : rank ≢ other = apart 0 (omega arith) in
    let rest : list_any (λ x. x == rank) others ≡ false = none_among rank others (λ k within. apart (suc k) (omega (arith, within))) in
    grind (arith, nat_tests)

test_of : (ranks : List ℕ) → ((k : ℕ) → k < length ranks → get_or ranks k 0 < 8) → ((j k : ℕ) → j < k → k < length ranks → get_or ranks j 0 ≢ get_or ranks k 0) → are_ranks ranks ≡ true
test_of [] below apart = refl
test_of (rank ∷ others) below apart =
    let here : rank < 8 = below 0 (omega arith) in
    let none : list_any (λ x. x == rank) others ≡ false = none_among rank others (λ k within. apart 0 (suc k) (omega arith) (omega (arith, within))) in
    let rest : are_ranks others ≡ true = test_of others (λ k within. below (suc k) (omega (arith, within))) (λ j k before within. apart (suc j) (suc k) (omega (arith, before)) (omega (arith, within))) in
    grind (arith, nat_tests)

pub ranks_test : (ranks : List ℕ) → AreRanks ranks → are_ranks ranks ≡ true
ranks_test ranks is =
    test_of ranks (λ k within. is.below k (omega (arith, within, is.eight)))
    (λ j k before within. is.different j k (omega (arith, before, within, is.eight)) (omega (arith, within, is.eight)) (λ same. omega (arith, before, same)))
