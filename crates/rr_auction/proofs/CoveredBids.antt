-- Bids, passes and turns leave the bids covered.
use Rattle.std.specs.Prelude.{◌≡◌, ◌≢◌, ℕ, ◌<◌, ◌≤◌, pos, ◌-ℤ◌, ◌≤ℤ◌, Bool, true, false, not, ◌&&◌, Option, None, Some, refl, if◌then◌else◌}
use Rattle.std.proofs.Common.{sym, ◌∙◌, ap, subst, cond, arith, inl, inr}
use Rattle.std.proofs.lemmas.Bool.{cases_eq, eq-eqb, false≢true}
use Rattle.std.proofs.lemmas.Int.{ints}
use Rattle.rr_roster.specs.declared.company.Private.{Private}
use Rattle.rr_roster.specs.declared.company.Corp.{Corp}
use Rattle.rr_roster.specs.Company.{private_index}
use Rattle.rr_books.specs.declared.parties.Seat.{Seat}
use Rattle.rr_books.specs.declared.parties.Party.TheVariants as P
use Rattle.rr_books.specs.Shares.{Holders}
use Rattle.rr_books.specs.Seating.{left_at_table, left_of}
use Rattle.rr_rounds.specs.Bids.Bids.{Bids, bid_of, tied_on, tied_up, with_bid}
use Rattle.rr_auction.proofs.AllBids.{all_bids, bid_on}
use Rattle.rr_rounds.specs.Bids.Progress.{Progress, after_bid, after_last_pass, after_leaving, after_par, after_pass, after_turn_pass, all_pass}
use Rattle.rr_auction.specs.Rules.{Accounts, free_cash}
use Rattle.rr_rounds.specs.Bids.Unsold.{is_unsold, same_private}
use Rattle.rr_auction.proofs.Covers.{IsCovered, bid_written, same_sum}
use Rattle.rr_auction.proofs.AllBids.{split}

other_private : (b : Bids) (p : Private) (s : Seat) (m : ℕ) (q : Private) (t : Seat) → same_private q p ≡ false → bid_of (with_bid b p s m) q t ≡ bid_of b q t
other_private b p s m q t other =
    elim (bid_written b p s m q t) [ inl e ↦ e | inr w ↦ absurd (false≢true (sym other ∙ eq-eqb (private_index q) (private_index p) w.0)) ]

other_seat : (b : Bids) (p : Private) (s : Seat) (m : ℕ) (q : Private) (t : Seat) → t.0 ≢ s.0 → bid_of (with_bid b p s m) q t ≡ bid_of b q t
other_seat b p s m q t other = elim (bid_written b p s m q t) [ inl e ↦ e | inr w ↦ absurd (other w.1) ]

tied_if : (same unsold : Bool) (x y : ℕ) → (same ≡ false → x ≡ y) → cond (not same && unsold) x 0 ≡ cond (not same && unsold) y 0
tied_if true unsold x y h = refl
tied_if false true x y h = h refl
tied_if false false x y h = refl

-- a bid on a private leaves as much tied up in the others
tied_as_before : (H : Holders) (b : Bids) (p : Private) (s : Seat) (m : ℕ) (t : Seat) → tied_up H (with_bid b p s m) t p ≡ tied_up H b t p
unfolding tied_up
tied_as_before H b p s m t =
    same_sum (tied_on H (with_bid b p s m) t p) (tied_on H b t p)
    (λ q. tied_if (same_private q p) (is_unsold H q) (bid_of (with_bid b p s m) q t) (bid_of b q t) (other_private b p s m q t))

-- and changes no bid of another seat
others_as_before : (H : Holders) (b : Bids) (p : Private) (s : Seat) (m : ℕ) (t : Seat) → t.0 ≢ s.0 → all_bids H (with_bid b p s m) t ≡ all_bids H b t
unfolding all_bids
others_as_before H b p s m t other =
    same_sum (bid_on H (with_bid b p s m) t) (bid_on H b t) (λ q. ap (λ (x : ℕ). cond (is_unsold H q) x 0) (other_seat b p s m q t other))

at_most : (u : Bool) (x : ℕ) → cond u x 0 ≤ x
at_most true x = omega arith
at_most false x = omega arith

-- a bid that the seat can pay beside its others
pub covered_bid : (n : ℕ) (H : Holders) (money : Accounts) (a : Progress) (p : Private) (s : Seat) (m : ℕ) → IsCovered n H money a → s.0 < n → pos m ≤ℤ free_cash money H a s p → IsCovered n H money (record a { bids = with_bid a.bids p s m })
covered_bid n H money a p s m h seated enough = record {
  turn = h.turn;
  bidders = λ q t out. elim (bid_written a.bids p s m q t) [ inl e ↦ e ∙ h.bidders q t out | inr w ↦ absurd (omega (arith, w.1)) ];
  seats = λ t. elim (cases_eq t.0 s.0) [
    | inr other ↦
        let Has : ℕ → Type 0 = λ x. pos x ≤ℤ money (P.Seat t) in
        subst Has (sym (others_as_before H a.bids p s m t other)) (h.seats t)
    | inl e ↦
        let b = with_bid a.bids p s m in
        let Can : ℕ → Type 0 = λ x. pos m ≤ℤ (money (P.Seat (record { 0 = x })) -ℤ pos (tied_up H a.bids (record { 0 = x }) p)) in
        let can : pos m ≤ℤ (money (P.Seat t) -ℤ pos (tied_up H a.bids t p)) = subst Can (sym e) enough in
        let now = split H b t p in
        let before = split H a.bids t p in
        let tied = tied_as_before H a.bids p s m t in
        let had = h.seats t in
        elim (bid_written a.bids p s m p t) [
          | inl same ↦
              let on : bid_on H b t p ≡ bid_on H a.bids t p = ap (λ (x : ℕ). cond (is_unsold H p) x 0) same in
              omega (arith, ints)
          | inr w ↦
              let low = at_most (is_unsold H p) (bid_of b p t) in
              let new = w.2 in
              omega (arith, ints)
        ]
  ];
  corporations = h.corporations;
}

-- what counts for the cover are the next turn and the bids
pub covered_turn : (n : ℕ) (H : Holders) (money : Accounts) (a b : Progress) → b.turn.0 < n → b.bids ≡ a.bids → IsCovered n H money a → IsCovered n H money b
covered_turn n H money a b seated same h =
    let Backs : Bids → Type 0 = λ x. (p : Private) (s : Seat) → n ≤ s.0 → bid_of x p s ≡ 0 in
    let Has : Bids → Type 0 = λ x. (s : Seat) → pos (all_bids H x s) ≤ℤ money (P.Seat s) in
    record {
      turn = seated;
      bidders = subst Backs (sym same) h.bidders;
      seats = subst Has (sym same) h.seats;
      corporations = h.corporations;
    }

pub covered_left : (n : ℕ) (H : Holders) (money : Accounts) (a b : Progress) (s : Seat) → s.0 < n → b.turn ≡ left_of n s → b.bids ≡ a.bids → IsCovered n H money a → IsCovered n H money b
covered_left n H money a b s seated left same h =
    let AtTable : Seat → Type 0 = λ t. t.0 < n in
    covered_turn n H money a b (subst AtTable (sym left) (left_at_table n s seated)) same h

-- a bid, in the seat's turn or where several raise
pub covered_after_bid : (n : ℕ) (H : Holders) (money : Accounts) (a : Progress) (raising : Bool) (s : Seat) (p : Private) (m : ℕ) → IsCovered n H money a → s.0 < n → pos m ≤ℤ free_cash money H a s p → IsCovered n H money (after_bid n raising s p m a)
covered_after_bid n H money a true s p m h seated enough =
    let new = record a { bids = with_bid a.bids p s m } in
    covered_turn n H money new (after_bid n true s p m a) h.turn refl (covered_bid n H money a p s m h seated enough)
covered_after_bid n H money a false s p m h seated enough =
    let new = record a { bids = with_bid a.bids p s m } in
    covered_left n H money new (after_bid n false s p m a) s seated refl refl (covered_bid n H money a p s m h seated enough)

-- nothing is always there
nothing_free : (n : ℕ) (H : Holders) (money : Accounts) (a : Progress) (s : Seat) (p : Private) → IsCovered n H money a → pos 0 ≤ℤ free_cash money H a s p
nothing_free n H money a s p h =
    let had = h.seats s in
    let parts = split H a.bids s p in
    omega (arith, ints)

covered_leaving : (n : ℕ) (H : Holders) (money : Accounts) (a : Progress) (s : Seat) (o : Option Private) → IsCovered n H money a → s.0 < n → IsCovered n H money (after_leaving s o a)
covered_leaving n H money a s None h seated = covered_turn n H money a (after_leaving s None a) h.turn refl h
covered_leaving n H money a s (Some p) h seated =
    let new = record a { bids = with_bid a.bids p s 0 } in
    covered_turn n H money new (after_leaving s (Some p) a) h.turn refl
    (covered_bid n H money a p s 0 h seated (nothing_free n H money a s p h))

-- a pass, in the seat's turn or where several raise
pub covered_after_pass : (n : ℕ) (H : Holders) (money : Accounts) (a : Progress) (raising : Bool) (o : Option Private) (s : Seat) → IsCovered n H money a → s.0 < n → IsCovered n H money (after_pass n raising o s a)
covered_after_pass n H money a true o s h seated = covered_leaving n H money a s o h seated
covered_after_pass n H money a false o s h seated = by_test (all_pass n a)
  where
    by_test : (b : Bool) → IsCovered n H money (if b then after_last_pass n s o a else after_turn_pass n s a)
    by_test true = covered_left n H money a (after_last_pass n s o a) s seated refl refl h
    by_test false = covered_left n H money a (after_turn_pass n s a) s seated refl refl h

-- a par
pub covered_after_par : (n : ℕ) (H : Holders) (money : Accounts) (a : Progress) (c : Corp) → IsCovered n H money a → IsCovered n H money (after_par c a)
covered_after_par n H money a Corp.Bo h = covered_turn n H money a (after_par Corp.Bo a) h.turn refl h
covered_after_par n H money a Corp.Prr h = h
covered_after_par n H money a Corp.Nyc h = h
covered_after_par n H money a Corp.Cpr h = h
covered_after_par n H money a Corp.Co h = h
covered_after_par n H money a Corp.Erie h = h
covered_after_par n H money a Corp.Nynh h = h
covered_after_par n H money a Corp.Bm h = h
