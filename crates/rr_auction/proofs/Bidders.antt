-- Who is found among the bidders, and what is found as the cheapest.
use Rattle.std.specs.Prelude.{◌≡◌, ℕ, ◌<◌, Bool, true, false, ◌&&◌, ◌==◌, List, [], ◌∷◌, Option, None, Some, find, is_some, refl, slice_index_or}
use Rattle.std.proofs.Common.{sym, ◌∙◌, ap, cond, arith}
use Rattle.std.proofs.lemmas.Bool.{eqb-true, false≢true}
use Rattle.std.proofs.lemmas.Bool.Decides.{nat_tests}
use Rattle.rr_roster.specs.declared.company.Private.{Private}
use Rattle.rr_roster.specs.Company.{private_index}
use Rattle.rr_books.specs.declared.parties.Seat.{Seat}
use Rattle.rr_books.specs.Shares.{Holders, privates}
use Rattle.rr_rounds.specs.Bids.Bids.{Row, all_seats, bid_in, has_bid, highest, leader, raiser, sole_bidder}
use Rattle.rr_rounds.specs.Bids.Unsold.{cheapest, is_private, is_unsold, same_private}

-- what is found passes the test
found_passes : {X : Type 0} (p : X → Bool) (xs : List X) (x : X) → find p xs ≡ Some x → p x ≡ true
found_passes p [] x h = absurd (cc)
found_passes p (y ∷ ys) x h = by_test (p y) refl (λ k. found_passes p ys x k) h
  where
    by_test : (b : Bool) → p y ≡ b → (find p ys ≡ Some x → p x ≡ true) → cond b (Some y) (find p ys) ≡ Some x → p x ≡ true
    by_test true e later k = let same : y ≡ x = cc in ap p (sym same) ∙ e
    by_test false e later k = later k

and_left : (a b : Bool) → (a && b) ≡ true → a ≡ true
and_left true b h = refl
and_left false b h = h

leader_bids : (row : Row) (s : Seat) → leader row ≡ Some s → has_bid row s ≡ true
unfolding leader
leader_bids row s h = and_left (has_bid row s) (bid_in row s == highest row) (found_passes (λ x. has_bid row x && (bid_in row x == highest row)) all_seats s h)

pub sole_bids : (row : Row) (s : Seat) → sole_bidder row ≡ Some s → has_bid row s ≡ true
sole_bids row s h = by_test (is_some (raiser row)) h
  where
    by_test : (b : Bool) → cond b None (leader row) ≡ Some s → has_bid row s ≡ true
    by_test true k = absurd (cc)
    by_test false k = leader_bids row s k

pub bid_is_some : (row : Row) (s : Seat) → has_bid row s ≡ true → 0 < bid_in row s
bid_is_some row s h = grind (arith, nat_tests)

-- the index tells the private
private_told : (p : Private) → slice_index_or privates (private_index p) Private.Sv ≡ p
private_told Private.Sv = refl
private_told Private.Csl = refl
private_told Private.Dh = refl
private_told Private.Mh = refl
private_told Private.Ca = refl
private_told Private.Bo = refl

same_is : (p q : Private) → same_private p q ≡ true → p ≡ q
same_is p q h =
    sym (private_told p) ∙ ap (λ (n : ℕ). slice_index_or privates n Private.Sv) (eqb-true (private_index p) (private_index q) h) ∙ private_told q

-- the cheapest private isn't sold
pub cheapest_unsold : (H : Holders) (p : Private) → is_private p (cheapest H) ≡ true → is_unsold H p ≡ true
unfolding cheapest
cheapest_unsold H p h = by_found (find (is_unsold H) privates) refl h
  where
    by_found : (o : Option Private) → find (is_unsold H) privates ≡ o → is_private p o ≡ true → is_unsold H p ≡ true
    by_found None e k = absurd (false≢true k)
    by_found (Some q) e k = ap (is_unsold H) (same_is p q k) ∙ found_passes (is_unsold H) privates q e
