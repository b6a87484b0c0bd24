-- Values are those of books exactly where each number is within its bounds.
use Rattle.std.specs.Prelude.{All}
use Rattle.std.proofs.Common.{◌≡◌, ℕ, ◌<◌, ◌≤◌, inl, inr, lit<, zero, suc, List, ◌∙◌, ap, ℤ, pos, length, get_or, refl, sym, subst, arith}
use Rattle.std.proofs.lemmas.Bool.{cases_lt}
use Rattle.std.proofs.lemmas.Int.{ints}
use Rattle.std.proofs.lemmas.List.{get_or_default}
use Rattle.std.proofs.Math.ListN.{get_or-eq_default}
use Rattle.rr_roster.specs.declared.company.Kind.{Kind}
use Rattle.rr_roster.specs.declared.company.Kind.TheVariants as K
use Rattle.rr_roster.specs.Company.{kind_index}
use Rattle.rr_books.specs.declared.parts.BooksParts.{BooksParts}
use Rattle.rr_books.specs.State.{limit_after}
use Rattle.rr_books.specs.Parts.{AreBooks, AreInBounds, IsWithin}

none_within : (n : ℕ) → IsWithin (pos n) (pos 0)
none_within n = (omega (arith, ints), omega (arith, ints))

within_each : (n k : ℕ) (amounts : List ℤ) → All (IsWithin (pos n)) amounts → IsWithin (pos n) (get_or amounts k (pos 0))
within_each n k amounts all =
    elim (cases_lt k (length amounts)) [
      | inl below ↦ all k (pos 0) below
      | inr past ↦ subst (IsWithin (pos n)) (sym (get_or-eq_default amounts (pos 0) past)) (none_within n)
    ]

kind_below : (k : Kind) → kind_index k < 6
kind_below K.Two = lit< tt
kind_below K.Three = lit< tt
kind_below K.Four = lit< tt
kind_below K.Five = lit< tt
kind_below K.Six = lit< tt
kind_below K.Diesel = lit< tt

pub books_within : (p : BooksParts) → length p.cash ≡ 15 → length p.places ≡ 78 → length p.trains ≡ 120 → length p.counts ≡ 6 → AreInBounds p → AreBooks p
books_within p parties certificates trains kinds is = record {
  least = λ k. (within_each (limit_after p.payments) k p.cash is.amounts).0;
  greatest = λ k. (within_each (limit_after p.payments) k p.cash is.amounts).1;
  payments = is.payments;
  two = is.two;
  players = is.players;
  counts = λ k. is.counts (kind_index k) 0 (subst (λ n. kind_index k < n) (sym kinds) (kind_below k));
  parties = parties;
  certificates = certificates;
  trains = trains;
}

-- the kind of a number
kind_of : (k : ℕ) → k < 6 → (kind : Kind) × (kind_index kind ≡ k)
kind_of zero below = (K.Two, refl)
kind_of (suc zero) below = (K.Three, refl)
kind_of (suc (suc zero)) below = (K.Four, refl)
kind_of (suc (suc (suc zero))) below = (K.Five, refl)
kind_of (suc (suc (suc (suc zero)))) below = (K.Six, refl)
kind_of (suc (suc (suc (suc (suc zero))))) below = (K.Diesel, refl)
kind_of (suc (suc (suc (suc (suc (suc k)))))) below = absurd (omega (arith, below))

count_within : (counts : List ℕ) → length counts ≡ 6 → ((k : Kind) → get_or counts (kind_index k) 0 ≤ 20) → All (λ count. count ≤ 20) counts
count_within counts six each k d below =
    let of = kind_of k (subst (λ n. k < n) six below) in
    let zero_default : get_or counts (kind_index of.0) 0 ≡ get_or counts k d = ap (λ n. get_or counts n 0) of.1 ∙ get_or_default counts k 0 d below in
    subst (λ n. n ≤ 20) zero_default (each of.0)

pub bounds_of_books : (p : BooksParts) → length p.counts ≡ 6 → AreBooks p → AreInBounds p
bounds_of_books p kinds is = record {
  two = is.two;
  players = is.players;
  payments = is.payments;
  amounts = λ k d below. subst (IsWithin (pos (limit_after p.payments))) (get_or_default p.cash k (pos 0) d below) (is.least k, is.greatest k);
  counts = count_within p.counts kinds is.counts;
}
