-- Who is found to raise, by the seats round the table.
use Rattle.std.specs.Prelude.{◌≡◌, ◌≢◌, ℕ, ◌+◌, ◌-◌, ◌<◌, ◌≤◌, ◌==◌, Bool, true, false, cond, nat_lt, ◌&&◌, List, [], ◌∷◌, Option, None, Some, ◌⊎◌, find, fold, length, is_some, max, option_and_then, slice_set, refl}
use Rattle.std.specs.Option.{option_or}
use Rattle.std.proofs.Common.{sym, ◌∙◌, ap, arith, get_or-set_other, inl, inr, subst, zero, suc}
use Rattle.std.proofs.Math.Path.{fun_ext}
use Rattle.std.proofs.lemmas.Bool.{and_from, and_parts, cases_eq, cases_order, eq-eqb, eqb-true, false≢true, lt-ltb, ltb-true}
use Rattle.std.proofs.lemmas.Bool.Decides.{nat_tests}
use Rattle.std.proofs.lemmas.Grind.{get_or-set_at}
use Rattle.rr_roster.specs.declared.company.Private.{Private}
use Rattle.rr_roster.specs.Company.{private_index}
use Rattle.rr_books.specs.declared.parties.Seat.{Seat}
use Rattle.rr_books.specs.declared.certificates.Cert.{Cert}
use Rattle.rr_books.specs.declared.entries.Entry.TheVariants as E
use Rattle.rr_books.specs.declared.entries.Marker.TheVariants as M
use Rattle.rr_books.specs.declared.acts.Act.{Act}
use Rattle.rr_books.specs.declared.acts.Act.TheVariants as A
use Rattle.rr_books.specs.Book.{Book, holder-push, players}
use Rattle.rr_books.specs.Shares.{Holders}
use Rattle.rr_auction.specs.AuctionLaws.{bid, for_sale, is_raised}
use Rattle.rr_rounds.specs.Bids.Bids.{Bids, Row, bid_in, bids_on, first_before, first_behind, has_bid, highest, leader, next_bidder, raiser, with_bid}
use Rattle.rr_rounds.specs.Bids.Progress.{Progress, progress, raise_for}
use Rattle.rr_auction.specs.RaisingLaws.{IsLeftOfTheHighest, IsNextBidder, seats_on, to_raise, with_told}
use Rattle.rr_rounds.specs.Bids.Unsold.{cheapest}
use Rattle.rr_rounds.specs.Bids.ProgressLaws.{progress-push}
use Rattle.rr_auction.proofs.Entries.{IsTable, once_told, private_below, raised-shown, table_of, told_raised}
use Rattle.rr_auction.proofs.Raising.{below_highest}

-- so many seats from one on
abbrev seats_from : ℕ → ℕ → List Seat
seats_from k zero = []
seats_from k (suc n) = record { 0 = k } ∷ seats_from (k + 1) n

-- the first that passes, in seating order
record IsFirst (p : Seat → Bool) (k n : ℕ) (s : Seat) : Type 0 where
  from : k ≤ s.0
  below : s.0 < k + n
  passes : p s ≡ true
  first : (t : Seat) → k ≤ t.0 → t.0 < s.0 → p t ≡ false

named : (k : ℕ) (t : Seat) → k ≡ t.0 → (p : Seat → Bool) → p (record { 0 = k }) ≡ p t
named k t e p = ap (λ (m : ℕ). p (record { 0 = m })) e

first_found : (p : Seat → Bool) (k n : ℕ) (s : Seat) → find p (seats_from k n) ≡ Some s → IsFirst p k n s
first_found p k zero s h = absurd (cc)
first_found p k (suc n) s h = by_test (p (record { 0 = k })) refl (first_found p (k + 1) n s) h
  where
    by_test : (b : Bool) → p (record { 0 = k }) ≡ b → (find p (seats_from (k + 1) n) ≡ Some s → IsFirst p (k + 1) n s) → cond b (Some (record { 0 = k })) (find p (seats_from (k + 1) n)) ≡ Some s → IsFirst p k (suc n) s
    by_test true e others found =
        let here : Seat = record { 0 = k } in
        let same : here ≡ s = cc in
        let at : k ≡ s.0 = ap (λ (t : Seat). t.0) same in
        record { from = omega arith; below = omega arith; passes = ap p (sym same) ∙ e; first = λ t low before. absurd (omega arith) }
    by_test false e others found =
        let later = others found in
        record {
          from = omega (arith, later.from);
          below = omega (arith, later.below);
          passes = later.passes;
          first = λ t low before. elim (cases_eq k t.0) [ inl at ↦ sym (named k t at p) ∙ e | inr apart ↦ later.first t (omega arith) before ];
        }

none_found : (p : Seat → Bool) (k n : ℕ) → find p (seats_from k n) ≡ None → (t : Seat) → k ≤ t.0 → t.0 < k + n → p t ≡ false
none_found p k zero h t low below = absurd (omega arith)
none_found p k (suc n) h t low below = by_test (p (record { 0 = k })) refl (λ found. none_found p (k + 1) n found t) h
  where
    by_test : (b : Bool) → p (record { 0 = k }) ≡ b → (find p (seats_from (k + 1) n) ≡ None → k + 1 ≤ t.0 → t.0 < (k + 1) + n → p t ≡ false) → cond b (Some (record { 0 = k })) (find p (seats_from (k + 1) n)) ≡ None → p t ≡ false
    by_test true e others found = absurd (cc)
    by_test false e others found = elim (cases_eq k t.0) [ inl at ↦ sym (named k t at p) ∙ e | inr apart ↦ others found (omega arith) (omega arith) ]

both : (a b : Bool) → (a && b) ≡ false → a ≡ true → b ≡ true → ⊥
both a b h x y = false≢true (sym h ∙ and_from a b x y)

on_behind : (s t : Seat) → s.0 < t.0 → seats_on s t ≡ t.0 - s.0
on_behind s t h = grind (arith, nat_tests)

on_before : (s t : Seat) → t.0 < s.0 → seats_on s t ≡ (t.0 + 6) - s.0
on_before s t h = grind (arith, nat_tests)

-- the nearest bidder on the left is found
next_found : (row : Row) (l s : Seat) → l.0 < 6 → next_bidder row l ≡ Some s → (s.0 < 6) × IsNextBidder (bid_in row) l s
unfolding first_behind first_before
next_found row l s low h = by_order (first_behind row l) refl h
  where
    by_order : (o : Option Seat) → find (λ t. nat_lt l.0 t.0 && has_bid row t) (seats_from 0 6) ≡ o → option_or o (find (λ t. nat_lt t.0 l.0 && has_bid row t) (seats_from 0 6)) ≡ Some s → (s.0 < 6) × IsNextBidder (bid_in row) l s
    by_order (Some x) e found =
        let same : x ≡ s = cc in
        let first = first_found (λ t. nat_lt l.0 t.0 && has_bid row t) 0 6 s (e ∙ found) in
        let parts = and_parts (nat_lt l.0 s.0) (has_bid row s) first.passes in
        let after = ltb-true l.0 s.0 parts.0 in
        let six : s.0 < 6 = omega (arith, first.below) in (
          six,
          record {
            other = omega arith;
            bidder = ltb-true 0 (bid_in row s) parts.1;
            nearest = λ t within apart some.
                elim (cases_order l.0 t.0) [
                  | inl e ↦ absurd (apart (sym e))
                  | inr others ↦ elim others [
                    | inr before ↦ omega (arith, on_behind l s after, on_before l t before)
                    | inl later ↦ elim (cases_order t.0 s.0) [
                      | inl at ↦ omega (arith, on_behind l s after, on_behind l t later)
                      | inr sides ↦ elim sides [
                        | inl closer ↦ absurd (both (nat_lt l.0 t.0) (has_bid row t) (first.first t (omega arith) closer) (lt-ltb l.0 t.0 later) (lt-ltb 0 (bid_in row t) some))
                        | inr further ↦ omega (arith, on_behind l s after, on_behind l t later)
                      ]
                    ]
                  ]
                ];
          },
        )
    by_order None e found =
        let first = first_found (λ t. nat_lt t.0 l.0 && has_bid row t) 0 6 s found in
        let parts = and_parts (nat_lt s.0 l.0) (has_bid row s) first.passes in
        let before = ltb-true s.0 l.0 parts.0 in
        let six : s.0 < 6 = omega (arith, first.below) in (
          six,
          record {
            other = omega arith;
            bidder = ltb-true 0 (bid_in row s) parts.1;
            nearest = λ t within apart some.
                elim (cases_order l.0 t.0) [
                  | inl e ↦ absurd (apart (sym e))
                  | inr others ↦ elim others [
                    | inl later ↦ absurd (both (nat_lt l.0 t.0) (has_bid row t) (none_found (λ t. nat_lt l.0 t.0 && has_bid row t) 0 6 e t (omega arith) (omega arith)) (lt-ltb l.0 t.0 later) (lt-ltb 0 (bid_in row t) some))
                    | inr sooner ↦ elim (cases_order t.0 s.0) [
                      | inl at ↦ omega (arith, on_before l s before, on_before l t sooner)
                      | inr sides ↦ elim sides [
                        | inl closer ↦ absurd (both (nat_lt t.0 l.0) (has_bid row t) (first.first t (omega arith) closer) (lt-ltb t.0 l.0 sooner) (lt-ltb 0 (bid_in row t) some))
                        | inr further ↦ omega (arith, on_before l s before, on_before l t sooner)
                      ]
                    ]
                  ]
                ];
          },
        )

-- who leads: the first seat with the highest bid
record IsLeader (row : Row) (l : Seat) : Type 0 where
  seated : l.0 < 6
  bids : 0 < bid_in row l
  top : bid_in row l ≡ fold max 0 row
  first : (t : Seat) → t.0 < l.0 → 0 < bid_in row t → bid_in row t ≢ fold max 0 row

leader_found : (row : Row) (l : Seat) → leader row ≡ Some l → IsLeader row l
unfolding leader highest
leader_found row l h =
    let first = first_found (λ s. has_bid row s && (bid_in row s == fold max 0 row)) 0 6 l h in
    let parts = and_parts (has_bid row l) (bid_in row l == fold max 0 row) first.passes in
    record {
      seated = omega (arith, first.below);
      bids = ltb-true 0 (bid_in row l) parts.0;
      top = eqb-true (bid_in row l) (fold max 0 row) parts.1;
      first = λ t before some same.
          both (has_bid row t) (bid_in row t == fold max 0 row) (first.first t (omega arith) before) (lt-ltb 0 (bid_in row t) some) (eq-eqb (bid_in row t) (fold max 0 row) same);
    }

-- who is to raise, and on whose left
record IsRaiser (row : Row) (s : Seat) : Type 0 where
  seated : s.0 < 6
  leads : Seat
  leader : IsLeader row leads
  next : IsNextBidder (bid_in row) leads s

raiser_found : (row : Row) (s : Seat) → raiser row ≡ Some s → IsRaiser row s
raiser_found row s h = by_leader (leader row) refl h
  where
    by_leader : (o : Option Seat) → leader row ≡ o → option_and_then (next_bidder row) o ≡ Some s → IsRaiser row s
    by_leader None e found = absurd (cc)
    by_leader (Some l) e found =
        let led = leader_found row l e in
        let next = next_found row l s led.seated found in
        record { seated = next.0; leads = l; leader = led; next = next.1 }

no_higher : (row : Row) (t : Seat) → bid_in row t ≤ fold max 0 row
no_higher row t = (below_highest row 0 t.0).1

pub left_of_highest : (row : Row) (s : Seat) → raiser row ≡ Some s → IsLeftOfTheHighest (bid_in row) s
left_of_highest row s h =
    let found = raiser_found row s h in
    record {
      leader = found.leads;
      highest = λ t. let low = no_higher row t in omega (arith, found.leader.top);
      next = found.next;
    }

-- the row of bids once a seat's is written
row_here : (row : Row) (s t : Seat) (m : ℕ) → length row ≡ 6 → s.0 < 6 → t.0 ≡ s.0 → bid_in (slice_set row s.0 m) t ≡ m
row_here row s t m six low same = let within : s.0 < length row = omega arith in get_or-set_at row s.0 t.0 m 0 same within

row_other : (row : Row) (s t : Seat) (m : ℕ) → t.0 ≢ s.0 → bid_in (slice_set row s.0 m) t ≡ bid_in row t
row_other row s t m apart = get_or-set_other row s.0 t.0 m 0 apart

-- a bidder over all others leads
leads_after_raise : (row : Row) (s l : Seat) (m : ℕ) → length row ≡ 6 → s.0 < 6 → ((t : Seat) → bid_in row t < m) → IsLeader (slice_set row s.0 m) l → l.0 ≡ s.0
leads_after_raise row s l m six low over led =
    elim (cases_eq l.0 s.0) [
      | inl same ↦ same
      | inr apart ↦ absurd (omega (arith, row_other row s l m apart, over l, led.top, no_higher (slice_set row s.0 m) s, row_here row s s m six low refl))
    ]

-- the leader goes on to lead when another leaves
leads_after_leaving : (row : Row) (s l k : Seat) → length row ≡ 6 → s.0 < 6 → l.0 ≢ s.0 → IsLeader row l → IsLeader (slice_set row s.0 0) k → k.0 ≡ l.0
leads_after_leaving row s l k six low apart led later =
    elim (cases_eq k.0 s.0) [
      | inl left ↦ absurd (omega (arith, row_here row s k 0 six low left, later.bids))
      | inr stays ↦
          let left = slice_set row s.0 0 in
          let at_l = row_other row s l 0 apart in
          let at_k = row_other row s k 0 stays in
          let tops : fold max 0 left ≡ fold max 0 row = omega (arith, no_higher row k, no_higher left l, led.top, later.top) in
          elim (cases_order k.0 l.0) [
            | inl same ↦ same
            | inr sides ↦ elim sides [
              | inl before ↦ absurd (led.first k before (omega (arith, later.bids)) (omega (arith, later.top)))
              | inr behind ↦ absurd (later.first l behind (omega (arith, led.bids)) (omega (arith, led.top)))
            ]
          ]
    ]

-- the nearest bidder, by another that sits there
same_leader : (bids : Seat → ℕ) (l k s : Seat) → k.0 ≡ l.0 → IsNextBidder bids k s → IsNextBidder bids l s
same_leader bids l k s same h = let P : ℕ → Type 0 = λ m. IsNextBidder bids (record { 0 = m }) s in subst P same h

pub next_after_raise : (row : Row) (s next : Seat) (m : ℕ) → length row ≡ 6 → s.0 < 6 → ((t : Seat) → bid_in row t < m) → raiser (slice_set row s.0 m) ≡ Some next → IsNextBidder (bid_in (slice_set row s.0 m)) s next
next_after_raise row s next m six low over h =
    let found = raiser_found (slice_set row s.0 m) next h in
    same_leader (bid_in (slice_set row s.0 m)) s found.leads next (leads_after_raise row s found.leads m six low over found.leader) found.next

-- how far each sits from two seats, where the second sits on the left of the first
around : (l s t : Seat) → l.0 < 6 → s.0 < 6 → t.0 < 6 → s.0 ≢ l.0 → t.0 ≢ l.0 → t.0 ≢ s.0 → seats_on l s ≤ seats_on l t → seats_on s t + seats_on l s ≡ seats_on l t
around l s t low_l low_s low_t apart_s apart_t apart h =
    elim (cases_order l.0 s.0) [
      | inl e ↦ absurd (apart_s (sym e))
      | inr a ↦ elim (cases_order l.0 t.0) [
        | inl e ↦ absurd (apart_t (sym e))
        | inr b ↦ elim (cases_order s.0 t.0) [
          | inl e ↦ absurd (apart (sym e))
          | inr c ↦ sides a b c
        ]
      ]
    ]
  where
    sides : ((l.0 < s.0) ⊎ (s.0 < l.0)) → ((l.0 < t.0) ⊎ (t.0 < l.0)) → ((s.0 < t.0) ⊎ (t.0 < s.0)) → seats_on s t + seats_on l s ≡ seats_on l t
    sides (inl a) (inl b) (inl c) = omega (arith, on_behind l s a, on_behind l t b, on_behind s t c)
    sides (inl a) (inl b) (inr c) = absurd (omega (arith, on_behind l s a, on_behind l t b, on_before s t c))
    sides (inl a) (inr b) (inl c) = absurd (omega (arith, on_behind l s a, on_before l t b, on_behind s t c))
    sides (inl a) (inr b) (inr c) = omega (arith, on_behind l s a, on_before l t b, on_before s t c)
    sides (inr a) (inl b) (inl c) = absurd (omega (arith, on_before l s a, on_behind l t b, on_behind s t c))
    sides (inr a) (inl b) (inr c) = absurd (omega (arith, on_before l s a, on_behind l t b, on_before s t c))
    sides (inr a) (inr b) (inl c) = omega (arith, on_before l s a, on_before l t b, on_behind s t c)
    sides (inr a) (inr b) (inr c) = absurd (omega (arith, on_before l s a, on_before l t b, on_before s t c))

-- all the way back
around_back : (l s : Seat) → l.0 < 6 → s.0 < 6 → s.0 ≢ l.0 → seats_on s l + seats_on l s ≡ 6
around_back l s low_l low_s apart =
    elim (cases_order l.0 s.0) [
      | inl e ↦ absurd (apart (sym e))
      | inr sides ↦ elim sides [
        | inl a ↦ omega (arith, on_behind l s a, on_before s l a)
        | inr a ↦ omega (arith, on_before l s a, on_behind s l a)
      ]
    ]

within_six : (l t : Seat) → l.0 < 6 → t.0 < 6 → t.0 ≢ l.0 → seats_on l t < 6
within_six l t low_l low_t apart =
    elim (cases_order l.0 t.0) [
      | inl e ↦ absurd (apart (sym e))
      | inr sides ↦ elim sides [ inl a ↦ omega (arith, on_behind l t a) | inr a ↦ omega (arith, on_before l t a) ]
    ]

pub next_after_leaving : (row : Row) (s next : Seat) → length row ≡ 6 → raiser row ≡ Some s → raiser (slice_set row s.0 0) ≡ Some next → IsNextBidder (bid_in (slice_set row s.0 0)) s next
next_after_leaving row s next six h later =
    let left = slice_set row s.0 0 in
    let old = raiser_found row s h in
    let new = raiser_found left next later in
    let l = old.leads in
    let apart : l.0 ≢ s.0 = λ e. old.next.other (sym e) in
    let on = same_leader (bid_in left) l new.leads next (leads_after_leaving row s l new.leads six old.seated apart old.leader new.leader) new.next in
    let still : next.0 ≢ s.0 = λ e. let none = row_here row s next 0 six old.seated e in let some = on.bidder in absurd (omega arith) in
    let next_before : 0 < bid_in row next = omega (arith, on.bidder, row_other row s next 0 still) in
    let further = old.next.nearest next new.seated on.other next_before in
    let to_next = around l s next old.leader.seated old.seated new.seated old.next.other on.other still further in
    record {
      other = still;
      bidder = on.bidder;
      nearest = λ t low other some.
          elim (cases_eq t.0 l.0) [
            | inl back ↦
                let back_there : seats_on s t ≡ seats_on s l = ap (λ (m : ℕ). seats_on s (record { 0 = m })) back in
                omega (arith, around_back l s old.leader.seated old.seated old.next.other, within_six l next old.leader.seated new.seated on.other)
            | inr out ↦
                let before : 0 < bid_in row t = omega (arith, row_other row s t 0 other) in
                let beyond = old.next.nearest t low out before in
                let to_t = around l s t old.leader.seated old.seated low old.next.other out other beyond in
                let closest = on.nearest t low out some in
                omega arith
          ];
    }

-- who raises is found in the row of what is for sale
raising_row : (book : Book) (p : Private) (s : Seat) → for_sale book ≡ Some p → to_raise book ≡ Some s → raiser (bids_on (progress book).bids p) ≡ Some s
raising_row book p s sale h = ap (λ (o : Option Private). raise_for (progress book).bids o) (sym sale) ∙ h

pub sits_left : (book : Book) (p : Private) (s : Seat) → for_sale book ≡ Some p → to_raise book ≡ Some s → IsLeftOfTheHighest (bid book p) s
sits_left book p s sale h = left_of_highest (bids_on (progress book).bids p) s (raising_row book p s sale h)

-- what is told while a private is raised for
told_in_raising : (book : Book) (p : Private) (s : Seat) (act : Act) → for_sale book ≡ Some p → to_raise book ≡ Some s → progress (with_told book act) ≡ once_told (players book) true (Some p) (progress book) act
told_in_raising book p s act sale h =
    let raised : is_raised book ≡ true =
    sym (raised-shown (progress book).bids (for_sale book) (table_of book)) ∙ ap (λ (o : Option Seat). is_some o) h in
    progress-push book (E.Step (M.Act act))
    ∙ told_raised book act
    ∙ ap (λ (b : Bool). once_told (players book) b (for_sale book) (progress book) act) raised
    ∙ ap (λ (o : Option Private). once_told (players book) true o (progress book) act) sale

still_for_sale : (book : Book) (p : Private) (act : Act) → for_sale book ≡ Some p → for_sale (with_told book act) ≡ Some p
still_for_sale book p act sale = ap (λ (H : Holders). cheapest H) (fun_ext (λ (c : Cert). holder-push book (E.Step (M.Act act)) c)) ∙ sale

written_row : (bids : Bids) (p : Private) (s : Seat) (m : ℕ) → IsTable bids → bids_on (with_bid bids p s m) p ≡ slice_set (bids_on bids p) s.0 m
written_row bids p s m table =
    let low = private_below p in
    let row : Row = slice_set (bids_on bids p) s.0 m in
    let within : private_index p < length bids = omega (arith, table.rows) in
    get_or-set_at bids (private_index p) (private_index p) row [] refl within

row_in : (book : Book) (p : Private) → length (bids_on (progress book).bids p) ≡ 6
row_in book p = (table_of book).seats (private_index p) (private_below p)

pub goes_on_raising : (book : Book) (p : Private) (s next : Seat) (n : ℕ) → for_sale book ≡ Some p → to_raise book ≡ Some s → ((t : Seat) → bid book p t < n) → to_raise (with_told book (A.Bid s p n)) ≡ Some next → IsNextBidder (bid (with_told book (A.Bid s p n)) p) s next
goes_on_raising book p s next n sale h over later =
    let act = A.Bid s p n in
    let bids = (progress book).bids in
    let row = bids_on bids p in
    let here = raiser_found row s (raising_row book p s sale h) in
    let made : bids_on (progress (with_told book act)).bids p ≡ slice_set row s.0 n =
    ap (λ (a : Progress). bids_on a.bids p) (told_in_raising book p s act sale h) ∙ written_row bids p s n (table_of book) in
    let found = raising_row (with_told book act) p next (still_for_sale book p act sale) later in
    let P : Row → Type 0 = λ r. IsNextBidder (bid_in r) s next in
    subst P (sym made) (next_after_raise row s next n (row_in book p) here.seated over (ap (λ (r : Row). raiser r) (sym made) ∙ found))

pub goes_on_leaving : (book : Book) (p : Private) (s next : Seat) → for_sale book ≡ Some p → to_raise book ≡ Some s → to_raise (with_told book (A.Pass s)) ≡ Some next → IsNextBidder (bid (with_told book (A.Pass s)) p) s next
goes_on_leaving book p s next sale h later =
    let act = A.Pass s in
    let bids = (progress book).bids in
    let row = bids_on bids p in
    let made : bids_on (progress (with_told book act)).bids p ≡ slice_set row s.0 0 =
    ap (λ (a : Progress). bids_on a.bids p) (told_in_raising book p s act sale h) ∙ written_row bids p s 0 (table_of book) in
    let found = raising_row (with_told book act) p next (still_for_sale book p act sale) later in
    let P : Row → Type 0 = λ r. IsNextBidder (bid_in r) s next in
    subst P (sym made) (next_after_leaving row s next (row_in book p) (raising_row book p s sale h) (ap (λ (r : Row). raiser r) (sym made) ∙ found))
