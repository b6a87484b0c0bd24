-- Values are those of an auction exactly where each number is within its bounds.
use Rattle.std.specs.Prelude.{All}
use Rattle.std.proofs.Common.{◌≡◌, ℕ, zero, suc, ◌<◌, ◌≤◌, inl, inr, List, [], length, get_or, refl, sym, ◌∙◌, ap, subst, arith}
use Rattle.std.proofs.lemmas.Bool.{cases_lt}
use Rattle.std.proofs.lemmas.List.{get_or_default}
use Rattle.std.proofs.Math.ListN.{get_or-eq_default}
use Rattle.rr_roster.specs.declared.company.Private.{Private}
use Rattle.rr_roster.specs.declared.company.Private.TheVariants as P
use Rattle.rr_roster.specs.Company.{private_index}
use Rattle.rr_rounds.specs.declared.bids.parts.BiddingParts.{BiddingParts}
use Rattle.rr_rounds.specs.Bids.Bids.{Bids, bid_of, bids_on}
use Rattle.rr_rounds.specs.Bids.Progress.{AreSmall}
use Rattle.rr_rounds.specs.Bids.Parts.{AreInBounds, IsBidding}

-- the private of a number
private_of : (k : ℕ) → k < 6 → (p : Private) × (private_index p ≡ k)
private_of zero below = (P.Sv, refl)
private_of (suc zero) below = (P.Csl, refl)
private_of (suc (suc zero)) below = (P.Dh, refl)
private_of (suc (suc (suc zero))) below = (P.Mh, refl)
private_of (suc (suc (suc (suc zero)))) below = (P.Ca, refl)
private_of (suc (suc (suc (suc (suc zero))))) below = (P.Bo, refl)
private_of (suc (suc (suc (suc (suc (suc k)))))) below = absurd (omega (arith, below))

small_at : (row : List ℕ) (k : ℕ) → All (λ bid. bid ≤ 10000000000) row → get_or row k 0 ≤ 10000000000
small_at row k all =
    elim (cases_lt k (length row)) [
      | inl below ↦ all k 0 below
      | inr past ↦ subst (λ n. n ≤ 10000000000) (sym (get_or-eq_default row 0 past)) (omega arith)
    ]

none_small : All (λ bid. bid ≤ 10000000000) []
none_small k d below = absurd (omega (arith, below))

small_row : (bids : Bids) (k : ℕ) → All (λ row. All (λ bid. bid ≤ 10000000000) row) bids → All (λ bid. bid ≤ 10000000000) (get_or bids k [])
small_row bids k all =
    elim (cases_lt k (length bids)) [
      | inl below ↦ all k [] below
      | inr past ↦ subst (λ row. All (λ bid. bid ≤ 10000000000) row) (sym (get_or-eq_default bids [] past)) none_small
    ]

pub bidding_within : (p : BiddingParts) → AreInBounds p → IsBidding p
bidding_within p is = (is.passes, is.falls, is.commands, λ private seat. small_at (bids_on p.bids private) seat.0 (small_row p.bids (private_index private) is.bids))

small_each : (bids : Bids) → length bids ≡ 6 → AreSmall bids → All (λ row. All (λ bid. bid ≤ 10000000000) row) bids
small_each bids six small k d below j e within =
    let of = private_of k (subst (λ n. k < n) six below) in
    let row : bids_on bids of.0 ≡ get_or bids k d = ap (λ n. get_or bids n []) of.1 ∙ get_or_default bids k [] d below in
    let bid : bid_of bids of.0 (record { 0 = j }) ≡ get_or (get_or bids k d) j e = ap (λ (r : List ℕ). get_or r j 0) row ∙ get_or_default (get_or bids k d) j 0 e within in
    subst (λ n. n ≤ 10000000000) bid (small of.0 (record { 0 = j }))

pub bounds_of_bidding : (p : BiddingParts) → length p.bids ≡ 6 → IsBidding p → AreInBounds p
bounds_of_bidding p six is = record { passes = is.0; falls = is.1; commands = is.2; bids = small_each p.bids six is.3 }
