-- A table that opens is covered.
use Rattle.std.specs.Prelude.{◌≡◌, ℕ, ◌+◌, ◌≤◌, ℤ, pos, ◌+ℤ◌, ◌-ℤ◌, ◌≤ℤ◌, Bool, true, false, List, [], ◌∷◌, ◌++◌, fold, length, map, max, refl, replicate, slice_index}
use Rattle.std.specs.List.{flat_map, range_with_len}
use Rattle.std.proofs.Common.{zero, suc, sym, ◌∙◌, ap, subst, cond, arith}
use Rattle.std.proofs.lemmas.Bool.{false≢true}
use Rattle.std.proofs.lemmas.Int.{ints}
use Rattle.rr_roster.specs.declared.company.Private.{Private}
use Rattle.rr_roster.specs.Terms.{Terms, order_of}
use Rattle.rr_books.specs.declared.parties.Seat.{Seat}
use Rattle.rr_books.specs.declared.parties.Party.{Party}
use Rattle.rr_books.specs.declared.parties.Party.TheVariants as P
use Rattle.rr_books.specs.declared.entries.Entry.TheVariants as E
use Rattle.rr_books.specs.declared.entries.Marker.TheVariants as M
use Rattle.rr_books.specs.Book.{balance, balance-append, balance-push, balance_after, holder, players, players-append, players-push, players_after}
use Rattle.rr_books.specs.Opening.{kinds, opening_entries, opening_moves, opening_payments, opening_trains, start_of, starting_money, trains_of}
use Rattle.rr_books.specs.Same.{same_party}
use Rattle.rr_books.specs.Shares.{Holders, certificates}
use Rattle.rr_books.proofs.OpeningPlaces.{moves-balance, moves-players, trains-balance, trains-players}
use Rattle.rr_rounds.specs.Bids.Bids.{bid_of, no_bids}
use Rattle.rr_auction.proofs.AllBids.{all_bids, bid_on}
use Rattle.rr_auction.specs.Opening.{opened}
use Rattle.rr_rounds.specs.Bids.Progress.{Progress, beginning, progress}
use Rattle.rr_rounds.specs.Bids.Unsold.{is_unsold}
use Rattle.rr_auction.proofs.Covers.{IsCovered, IsCoveredBook, nothing_paid, same_sum}
use Rattle.rr_auction.proofs.Openings.{begins}

-- as the seats from i on are paid, each is one more
seats_paid : (n i m : ℕ) → fold players_after i (map (start_of n) (range_with_len i m)) ≡ i + m
seats_paid n i zero = omega arith
seats_paid n i (suc m) =
    let next : max i (i + 1) ≡ i + 1 = omega arith in
    let others = seats_paid n (i + 1) m in
    ap (λ (x : ℕ). fold players_after x (map (start_of n) (range_with_len (i + 1) m))) next ∙ others ∙ sum_is
  where
    sum_is : (i + 1) + m ≡ i + suc m
    sum_is = omega arith

players_opened : (names : List (List ℕ)) (roster : Terms) → players (opened names roster) ≡ length names
unfolding opening_payments opening_moves opening_trains players
players_opened names roster =
    let n = length names in
    let before = opening_payments n ++ opening_moves roster in
    players-push (opening_entries n roster) (E.Step (M.Auction names))
    ∙ players-append before (opening_trains roster)
    ∙ trains-players (flat_map (trains_of roster) kinds) _
    ∙ players-append (opening_payments n) (opening_moves roster)
    ∙ moves-players (certificates (order_of roster)) _
    ∙ seats_paid n 0 n
    ∙ none_more n
  where
    none_more : (k : ℕ) → 0 + k ≡ k
    none_more k = omega arith

gets : (b d : Bool) (m : ℕ) (x : ℤ) → d ≡ false → pos 0 ≤ℤ x → pos 0 ≤ℤ ((x +ℤ cond b (pos m) (pos 0)) -ℤ cond d (pos m) (pos 0))
gets true false m x e h = omega (arith, ints)
gets false false m x e h = omega (arith, ints)
gets b true m x e h = absurd (false≢true (sym e))

-- the payments of an opening leave no one but the bank with less than nothing
has_after_starts : (n : ℕ) (p : Party) (seats : List ℕ) (x : ℤ) → same_party p P.Bank ≡ false → pos 0 ≤ℤ x → pos 0 ≤ℤ fold (balance_after p) x (map (start_of n) seats)
has_after_starts n p [] x other h = h
has_after_starts n p (k ∷ seats) x other h =
    has_after_starts n p seats (balance_after p x (start_of n k)) other
    (gets (same_party p (P.Seat (record { 0 = k }))) (same_party p P.Bank) (starting_money n) x other h)

has_opened : (names : List (List ℕ)) (roster : Terms) (p : Party) → same_party p P.Bank ≡ false → pos 0 ≤ℤ balance (opened names roster) p
unfolding opening_payments opening_moves opening_trains balance
has_opened names roster p other =
    let n = length names in
    let before = opening_payments n ++ opening_moves roster in
    let same : balance (opened names roster) p ≡ fold (balance_after p) (pos 0) (map (start_of n) (range_with_len 0 n)) =
    balance-push (opening_entries n roster) (E.Step (M.Auction names)) p
    ∙ nothing_paid _
    ∙ balance-append before (opening_trains roster) p
    ∙ trains-balance p (flat_map (trains_of roster) kinds) _
    ∙ balance-append (opening_payments n) (opening_moves roster) p
    ∙ moves-balance p (certificates (order_of roster)) _ in
    let Has : ℤ → Type 0 = λ x. pos 0 ≤ℤ x in
    subst Has (sym same) (has_after_starts n p (range_with_len 0 n) (pos 0) other (omega (arith, ints)))

zeros : (n k : ℕ) → slice_index (replicate n 0) k ≡ 0
zeros zero k = refl
zeros (suc n) zero = refl
zeros (suc n) (suc k) = zeros n k

no_bid : (p : Private) (s : Seat) → bid_of no_bids p s ≡ 0
no_bid Private.Sv s = zeros 6 s.0
no_bid Private.Csl s = zeros 6 s.0
no_bid Private.Dh s = zeros 6 s.0
no_bid Private.Mh s = zeros 6 s.0
no_bid Private.Ca s = zeros 6 s.0
no_bid Private.Bo s = zeros 6 s.0

none_on : (unsold : Bool) (m : ℕ) → m ≡ 0 → cond unsold m 0 ≡ 0
none_on true m e = e
none_on false m e = refl

nothing_bid : (H : Holders) (s : Seat) → all_bids H no_bids s ≡ 0
unfolding all_bids
nothing_bid H s = same_sum (bid_on H no_bids s) (λ p. 0) (λ p. none_on (is_unsold H p) (bid_of no_bids p s) (no_bid p s))

-- nobody has bid yet, and the first seat is next
pub covered_opened : (names : List (List ℕ)) (roster : Terms) → 2 ≤ length names → IsCoveredBook (length names) (opened names roster)
covered_opened names roster two =
    let book = opened names roster in
    let Covered : Progress → Type 0 = λ a. IsCovered (length names) (holder book) (balance book) a in
    let begun : progress book ≡ beginning = begins names roster beginning refl in
    record {
      players = players_opened names roster;
      covered = subst Covered (sym begun) (record {
        turn = omega arith;
        bidders = λ p s out. no_bid p s;
        seats = λ s.
            let none = nothing_bid (holder book) s in
            let has = has_opened names roster (P.Seat s) refl in
            omega (arith, ints);
        corporations = λ c. has_opened names roster (P.Corp c) refl;
      });
    }
