-- A sale moves just the shares that are sold, and leaves the president with the most.
use Rattle.std.proofs.Common.{◌≡◌, ℕ, ◌+◌, ◌-◌, ◌*◌, ◌<◌, ◌≤◌, Bool, true, false, cond, ◌⊎◌, inl, inr, eqb, [], ◌++◌, zero, suc, length, get_or, Option, None, Some, MatchOption, sym, ◌∙◌, ap, refl, subst, arith, append-nil}
use Rattle.std.proofs.lemmas.Bool.{eq-eqb, lt-ltb}
use Rattle.std.proofs.lemmas.Bool.Decides.{eqb_tells}
use Rattle.rr_roster.specs.declared.company.Corp.{Corp}
use Rattle.rr_books.specs.declared.parties.Seat.{Seat}
use Rattle.rr_books.specs.declared.parties.Place.{Place}
use Rattle.rr_books.specs.declared.parties.Place.TheVariants as L
use Rattle.rr_books.specs.declared.certificates.Cert.TheVariants as C
use Rattle.rr_books.specs.declared.entries.Entry.TheVariants as E
use Rattle.rr_books.specs.Same.{same_place}
use Rattle.rr_books.specs.Book.{Book, holder, players}
use Rattle.rr_books.specs.Shares.{Holders, is_at, seat_of, share}
use Rattle.rr_books.specs.ShareLaws.{share-parts}
use Rattle.rr_desk.specs.Effects.{adds, moves_lowest_share}
use Rattle.rr_shares.specs.declared.succession.Handover.{Handover}
use Rattle.rr_shares.specs.Holdings.{heir, percent_in, percents_after_sale, share_after_sale}
use Rattle.rr_shares.specs.Succession.{at_table, handover_after_sale, handover_by, handover_from}
use Rattle.rr_shares.specs.Effects.{hands_over, hands_over_if, moves_lowest_shares, presidency_after_sale, sale_shares}
use Rattle.rr_shares.specs.Presidents.{HasTheMost, IsPresident, NobodyHasMore}
use Rattle.rr_shares.specs.Sales.{AnotherHasTwenty, AreSold, MaySell, PresidentLeads}
use Rattle.rr_shares.proofs.Counting.{Numbered, numbered, tens, tens_after_one}
use Rattle.rr_shares.proofs.Handovers.{heir_apart, parts_of, shares_kept, shares_stay, tens_after_two}
use Rattle.rr_shares.proofs.Heirs.{heir_has_most}
use Rattle.rr_shares.proofs.Keeping.{after_two, kept_by_shares, taken_over}

-- how many of a corporation's 10% certificates are at a place
abbrev tens_at : Book → Corp → Place → ℕ
tens_at book c place = tens (numbered (holder book) c) place

-- a book once a seat's n lowest 10% certificates went to the pool
abbrev sold : Book → Corp → Seat → ℕ → Book
sold book c giver n = book ++ moves_lowest_shares c n (L.Seat giver) L.Pool book

sold-none : (book : Book) (c : Corp) (giver : Seat) → sold book c giver 0 ≡ book
unfolding moves_lowest_shares
sold-none book c giver = append-nil book

sold-more : (book : Book) (c : Corp) (giver : Seat) (n : ℕ) → sold book c giver (suc n) ≡ sold book c giver n ++ moves_lowest_share c (L.Seat giver) L.Pool (sold book c giver n)
unfolding moves_lowest_shares
sold-more book c giver n = after_two (moves_lowest_shares c n (L.Seat giver) L.Pool) (moves_lowest_share c (L.Seat giver) L.Pool) book

told_apart : (m n : ℕ) → (m ≡ n → ⊥) → eqb m n ≡ false
told_apart m n apart = elim (eqb_tells m n) [ inl same ↦ absurd (apart same.1) | inr other ↦ other.0 ]

at_itself : (s : Seat) → cond {A = ℕ} (same_place (L.Seat s) (L.Seat s)) 1 0 ≡ 1
at_itself s = ap (λ (b : Bool). cond {A = ℕ} b 1 0) (eq-eqb s.0 s.0 refl)

at_another : (s t : Seat) → eqb s.0 t.0 ≡ false → cond {A = ℕ} (same_place (L.Seat s) (L.Seat t)) 1 0 ≡ 0
at_another s t apart = ap (λ (b : Bool). cond {A = ℕ} b 1 0) apart

-- the seat has n fewer
tens_left : (book : Book) (c : Corp) (giver : Seat) (n : ℕ) → n ≤ tens_at book c (L.Seat giver) → tens_at (sold book c giver n) c (L.Seat giver) + n ≡ tens_at book c (L.Seat giver)
tens_left book c giver zero h = let e = ap (λ (b : Book). tens_at b c (L.Seat giver)) (sold-none book c giver) in omega arith
tens_left book c giver (suc n) h =
    let before = tens_left book c giver n (omega arith) in
    let own = at_itself giver in
    let last = tens_after_one (sold book c giver n) c giver L.Pool (L.Seat giver) (omega arith) in
    let e = ap (λ (b : Book). tens_at b c (L.Seat giver)) (sold-more book c giver n) in
    omega arith

-- the pool has n more
tens_pooled : (book : Book) (c : Corp) (giver : Seat) (n : ℕ) → n ≤ tens_at book c (L.Seat giver) → tens_at (sold book c giver n) c L.Pool ≡ tens_at book c L.Pool + n
tens_pooled book c giver zero h = let e = ap (λ (b : Book). tens_at b c L.Pool) (sold-none book c giver) in omega arith
tens_pooled book c giver (suc n) h =
    let left = tens_left book c giver n (omega arith) in
    let before = tens_pooled book c giver n (omega arith) in
    let last = tens_after_one (sold book c giver n) c giver L.Pool L.Pool (omega arith) in
    let e = ap (λ (b : Book). tens_at b c L.Pool) (sold-more book c giver n) in
    omega arith

-- and each other seat as many as before
tens_of_another : (book : Book) (c : Corp) (giver s : Seat) (n : ℕ) → eqb giver.0 s.0 ≡ false → n ≤ tens_at book c (L.Seat giver) → tens_at (sold book c giver n) c (L.Seat s) ≡ tens_at book c (L.Seat s)
tens_of_another book c giver s zero apart h = ap (λ (b : Book). tens_at b c (L.Seat s)) (sold-none book c giver)
tens_of_another book c giver s (suc n) apart h =
    let left = tens_left book c giver n (omega arith) in
    let before = tens_of_another book c giver s n apart (omega arith) in
    let other = at_another giver s apart in
    let last = tens_after_one (sold book c giver n) c giver L.Pool (L.Seat s) (omega arith) in
    let e = ap (λ (b : Book). tens_at b c (L.Seat s)) (sold-more book c giver n) in
    omega arith

-- what the pool has, where a seat is president
pool_parts : (H : Holders) (c : Corp) (p : Seat) → H (C.President c) ≡ Some (L.Seat p) → share H L.Pool c ≡ 10 * tens (numbered H c) L.Pool
pool_parts H c p e =
    let parts = share-parts H L.Pool c ∙ ap (λ (x : Option Place). cond (is_at x L.Pool) 20 0 + 10 * tens (numbered H c) L.Pool) e in
    omega arith

-- a handover leaves the pool as it was
pool_kept : (book : Book) (c : Corp) (h : Handover) → holder book (C.President c) ≡ Some (L.Seat h.from) → eqb h.from.0 h.to.0 ≡ false → 2 ≤ tens_at book c (L.Seat h.to) → share (holder (book ++ hands_over c h book)) L.Pool c ≡ share (holder book) L.Pool c
unfolding hands_over
pool_kept book c h e apart two =
    let shares = moves_lowest_shares c 2 (L.Seat h.to) (L.Seat h.from) in
    let after = pool_parts (holder (book ++ hands_over c h book)) c h.to (taken_over c h book) in
    let before = pool_parts (holder book) c h.from e in
    let count : tens_at (book ++ hands_over c h book) c L.Pool ≡ tens_at (book ++ shares book) c L.Pool =
    ap (λ (b : Book). tens_at b c L.Pool) (after_two shares (adds (E.Move (C.President c) (L.Seat h.to))) book)
    ∙ ap (λ (x : Numbered). tens x L.Pool) (shares_stay (book ++ shares book) c (L.Seat h.to)) in
    let moves = tens_after_two book c h.to h.from L.Pool apart two in
    omega arith

-- what the row after the sale has of a seat
row_at : (H : Holders) (c : Corp) (seller : Seat) (n k : ℕ) → k < 6 → get_or (percents_after_sale H c seller n) k 0 ≡ share_after_sale H c seller n (record { 0 = k })
unfolding percents_after_sale
row_at H c seller n zero h = refl
row_at H c seller n (suc zero) h = refl
row_at H c seller n (suc (suc zero)) h = refl
row_at H c seller n (suc (suc (suc zero))) h = refl
row_at H c seller n (suc (suc (suc (suc zero)))) h = refl
row_at H c seller n (suc (suc (suc (suc (suc zero))))) h = refl
row_at H c seller n (suc (suc (suc (suc (suc (suc k)))))) h = absurd (omega arith)

row_long : (H : Holders) (c : Corp) (seller : Seat) (n : ℕ) → length (percents_after_sale H c seller n) ≡ 6
unfolding percents_after_sale
row_long H c seller n = refl

row_own : (H : Holders) (c : Corp) (seller : Seat) (n : ℕ) (s : Seat) → s.0 < 6 → s.0 ≡ seller.0 → percent_in (percents_after_sale H c seller n) s ≡ share H (L.Seat seller) c - 10 * n
row_own H c seller n s few same =
    row_at H c seller n s.0 few
    ∙ ap (λ (b : Bool). cond b (share H (L.Seat s) c - 10 * n) (share H (L.Seat s) c)) (eq-eqb s.0 seller.0 same)
    ∙ ap (λ (k : ℕ). share H (L.Seat (record { 0 = k })) c - 10 * n) same

row_other : (H : Holders) (c : Corp) (seller : Seat) (n : ℕ) (s : Seat) → s.0 < 6 → eqb s.0 seller.0 ≡ false → percent_in (percents_after_sale H c seller n) s ≡ share H (L.Seat s) c
row_other H c seller n s few apart =
    row_at H c seller n s.0 few ∙ ap (λ (b : Bool). cond b (share H (L.Seat s) c - 10 * n) (share H (L.Seat s) c)) apart

less_or_same : (b : Bool) (m n : ℕ) → cond b (m - n) m ≤ m
less_or_same true m n = omega arith
less_or_same false m n = omega arith

row_within : (H : Holders) (c : Corp) (seller : Seat) (n : ℕ) (s : Seat) → s.0 < 6 → percent_in (percents_after_sale H c seller n) s ≤ share H (L.Seat s) c
row_within H c seller n s few =
    let is = row_at H c seller n s.0 few in
    let low = less_or_same (eqb s.0 seller.0) (share H (L.Seat s) c) (10 * n) in
    omega arith

-- the seat q is president of a book in which the presidency was settled for a sale, and can sell what is to be sold
record IsSettled (book later : Book) (c : Corp) (seller : Seat) (n : ℕ) (q : Seat) : Type 0 where
  presides : IsPresident later c q
  at : q.0 < players book
  seats : (s : Seat) → share (holder later) (L.Seat s) c ≡ share (holder book) (L.Seat s) c
  in_pool : share (holder later) L.Pool c ≡ share (holder book) L.Pool c
  most : HasTheMost (percents_after_sale (holder book) c seller n) (players book) q
  keeps : q.0 ≡ seller.0 → 20 + 10 * n ≤ share (holder book) (L.Seat seller) c

abbrev Settles : Book → Book → Corp → Seat → ℕ → Type 0
Settles book later c seller n = (q : Seat) × IsSettled book later c seller n q

-- another seat with 20% has it after the sale too
other_in_row : (book : Book) (c : Corp) (seller : Seat) (n : ℕ) → players book ≤ 6 → (o : AnotherHasTwenty book c seller) → 20 ≤ percent_in (percents_after_sale (holder book) c seller n) o.seat
other_in_row book c seller n few o =
    let at = o.at_table in
    let is = row_other (holder book) c seller n o.seat (omega arith) (told_apart o.seat.0 seller.0 o.another) in
    let enough = o.enough in
    omega arith

settled_without : (book : Book) (c : Corp) (p seller : Seat) (n : ℕ) → IsPresident book c p → p.0 < players book → players book ≤ 6 → MaySell book c p seller n → HasTheMost (percents_after_sale (holder book) c seller n) (players book) p → IsSettled book (book ++ []) c seller n p
settled_without book c p seller n e seated few may most =
    let nothing = append-nil book in
    record {
      presides = ap (λ (b : Book). holder b (C.President c)) nothing ∙ e;
      at = seated;
      seats = λ s. ap (λ (b : Book). share (holder b) (L.Seat s) c) nothing;
      in_pool = ap (λ (b : Book). share (holder b) L.Pool c) nothing;
      most = most;
      keeps = λ same. by_leaves same (may.leaves same);
    }
  where
    by_leaves : p.0 ≡ seller.0 → (20 + 10 * n ≤ share (holder book) (L.Seat seller) c) ⊎ AnotherHasTwenty book c seller → 20 + 10 * n ≤ share (holder book) (L.Seat seller) c
    by_leaves same (inl h) = h
    by_leaves same (inr o) =
        let its = other_in_row book c seller n few o in
        let own = row_own (holder book) c seller n p (omega arith) same in
        let le = most o.seat.0 o.at_table in
        omega arith

-- the president has 20%
president_has : (H : Holders) (c : Corp) (p : Seat) → H (C.President c) ≡ Some (L.Seat p) → 20 ≤ share H (L.Seat p) c
president_has H c p e =
    let parts = parts_of H c p p e in
    let own = at_itself p in
    omega arith

-- and so has its heir
heir_has : (book : Book) (c : Corp) (p s seller : Seat) (n : ℕ) → IsPresident book c p → p.0 < players book → players book ≤ 6 → MaySell book c p seller n → s.0 < players book → percent_in (percents_after_sale (holder book) c seller n) p < percent_in (percents_after_sale (holder book) c seller n) s → HasTheMost (percents_after_sale (holder book) c seller n) (players book) s → 20 ≤ share (holder book) (L.Seat s) c
heir_has book c p s seller n e seated few may at more most = by_seller (eqb_tells p.0 seller.0)
  where
    by_leaves : p.0 ≡ seller.0 → (20 + 10 * n ≤ share (holder book) (L.Seat seller) c) ⊎ AnotherHasTwenty book c seller → 20 ≤ share (holder book) (L.Seat s) c
    by_leaves same (inl h) =
        let own = row_own (holder book) c seller n p (omega arith) same in
        let low = row_within (holder book) c seller n s (omega arith) in
        omega arith
    by_leaves same (inr o) =
        let its = other_in_row book c seller n few o in
        let le = most o.seat.0 o.at_table in
        let low = row_within (holder book) c seller n s (omega arith) in
        omega arith

    by_seller : ((eqb p.0 seller.0 ≡ true) × (p.0 ≡ seller.0)) ⊎ ((eqb p.0 seller.0 ≡ false) × (p.0 ≡ seller.0 → ⊥)) → 20 ≤ share (holder book) (L.Seat s) c
    by_seller (inl own) = by_leaves own.1 (may.leaves own.1)
    by_seller (inr other) =
        let is = row_other (holder book) c seller n p (omega arith) other.0 in
        let has = president_has (holder book) c p e in
        let low = row_within (holder book) c seller n s (omega arith) in
        omega arith

settled_with : (book : Book) (c : Corp) (p s seller : Seat) (n : ℕ) → IsPresident book c p → p.0 < players book → players book ≤ 6 → MaySell book c p seller n → s.0 < players book → percent_in (percents_after_sale (holder book) c seller n) p < percent_in (percents_after_sale (holder book) c seller n) s → HasTheMost (percents_after_sale (holder book) c seller n) (players book) s
    → IsSettled book (book ++ hands_over c (record { from = p; to = s }) book) c seller n s
settled_with book c p s seller n e seated few may at more most =
    let h : Handover = record { from = p; to = s } in
    let row = percents_after_sale (holder book) c seller n in
    let apart = heir_apart row p s more (eqb_tells p.0 s.0) in
    let has = heir_has book c p s seller n e seated few may at more most in
    let parts = parts_of (holder book) c p s e in
    let other = at_another p s apart in
    let two : 2 ≤ tens_at book c (L.Seat s) = omega arith in
    record {
      presides = taken_over c h book;
      at = at;
      seats = λ t. shares_kept book c h e apart two t;
      in_pool = pool_kept book c h e apart two;
      most = most;
      keeps = λ same. by_seller same (eqb_tells p.0 seller.0);
    }
  where
    by_seller : s.0 ≡ seller.0 → ((eqb p.0 seller.0 ≡ true) × (p.0 ≡ seller.0)) ⊎ ((eqb p.0 seller.0 ≡ false) × (p.0 ≡ seller.0 → ⊥)) → 20 + 10 * n ≤ share (holder book) (L.Seat seller) c
    by_seller same (inl own) =
        let one = row_own (holder book) c seller n p (omega arith) own.1 in
        let two = row_own (holder book) c seller n s (omega arith) same in
        absurd (omega arith)
    by_seller same (inr other) =
        let is = row_other (holder book) c seller n p (omega arith) other.0 in
        let own = row_own (holder book) c seller n s (omega arith) same in
        let has = president_has (holder book) c p e in
        omega arith

-- whoever is president once the presidency was settled for a sale
settled_by : (book : Book) (c : Corp) (p seller : Seat) (n : ℕ) → IsPresident book c p → p.0 < players book → players book ≤ 6 → MaySell book c p seller n → (o : Option Seat)
    → MatchOption o (HasTheMost (percents_after_sale (holder book) c seller n) (players book) p) (λ s. (s.0 < players book) × (percent_in (percents_after_sale (holder book) c seller n) p < percent_in (percents_after_sale (holder book) c seller n) s) × HasTheMost (percents_after_sale (holder book) c seller n) (players book) s)
    → Settles book (book ++ hands_over_if c (handover_from p o) book) c seller n
settled_by book c p seller n e seated few may None most = (p, settled_without book c p seller n e seated few may most)
settled_by book c p seller n e seated few may (Some s) heir_is = (s, settled_with book c p s seller n e seated few may heir_is.0 heir_is.1 heir_is.2)

due_of : (book : Book) (c : Corp) (p seller : Seat) (n : ℕ) → IsPresident book c p → p.0 < players book → handover_after_sale (holder book) (players book) c seller n ≡ handover_from p (heir (percents_after_sale (holder book) c seller n) (players book) p)
unfolding handover_after_sale
due_of book c p seller n e seated =
    ap (λ (x : Option Place). handover_by (percents_after_sale (holder book) c seller n) (players book) (at_table (players book) (seat_of x))) e
    ∙ ap (λ (b : Bool). handover_by (percents_after_sale (holder book) c seller n) (players book) (cond b (Some p) None)) (lt-ltb p.0 (players book) seated)

settled : (book : Book) (c : Corp) (p seller : Seat) (n : ℕ) → IsPresident book c p → p.0 < players book → players book ≤ 6 → MaySell book c p seller n → Settles book (book ++ presidency_after_sale c seller n book) c seller n
unfolding presidency_after_sale
settled book c p seller n e seated few may =
    let So : Option Handover → Type 0 = λ due. Settles book (book ++ hands_over_if c due book) c seller n in
    let row = percents_after_sale (holder book) c seller n in
    let long : players book ≤ length row = let six = row_long (holder book) c seller n in omega arith in
    subst So (sym (due_of book c p seller n e seated)) (settled_by book c p seller n e seated few may (heir row (players book) p) (heir_has_most row (players book) p seated long))

-- the seller has the 10% certificates that it sells
enough_tens : (book later : Book) (c : Corp) (seller q : Seat) (n : ℕ) → 10 * n ≤ share (holder book) (L.Seat seller) c → IsSettled book later c seller n q → n ≤ tens_at later c (L.Seat seller)
enough_tens book later c seller q n holds h = by_seller (eqb_tells q.0 seller.0)
  where
    by_seller : ((eqb q.0 seller.0 ≡ true) × (q.0 ≡ seller.0)) ⊎ ((eqb q.0 seller.0 ≡ false) × (q.0 ≡ seller.0 → ⊥)) → n ≤ tens_at later c (L.Seat seller)
    by_seller (inl own) =
        let parts = parts_of (holder later) c q seller h.presides in
        let one : cond {A = ℕ} (same_place (L.Seat q) (L.Seat seller)) 1 0 ≡ 1 = ap (λ (b : Bool). cond {A = ℕ} b 1 0) own.0 in
        let keeps = h.keeps own.1 in
        let same = h.seats seller in
        omega arith
    by_seller (inr other) =
        let parts = parts_of (holder later) c q seller h.presides in
        let none = at_another q seller other.0 in
        let same = h.seats seller in
        omega arith

-- the president keeps the 20% certificate
presides_after : (book later : Book) (c : Corp) (seller q : Seat) (n : ℕ) → IsSettled book later c seller n q → IsPresident (sold later c seller n) c q
presides_after book later c seller q n h = kept_by_shares c n (L.Seat seller) L.Pool c later ∙ h.presides

-- what the seller has after the sale
seller_after : (book later : Book) (c : Corp) (seller q : Seat) (n : ℕ) → 10 * n ≤ share (holder book) (L.Seat seller) c → IsSettled book later c seller n q → share (holder (sold later c seller n)) (L.Seat seller) c + 10 * n ≡ share (holder book) (L.Seat seller) c
seller_after book later c seller q n holds h =
    let enough = enough_tens book later c seller q n holds h in
    let left = tens_left later c seller n enough in
    let after = parts_of (holder (sold later c seller n)) c q seller (presides_after book later c seller q n h) in
    let before = parts_of (holder later) c q seller h.presides in
    let same = h.seats seller in
    omega arith

-- what another seat has after it
other_after : (book later : Book) (c : Corp) (seller q s : Seat) (n : ℕ) → 10 * n ≤ share (holder book) (L.Seat seller) c → IsSettled book later c seller n q → (s.0 ≡ seller.0 → ⊥) → share (holder (sold later c seller n)) (L.Seat s) c ≡ share (holder book) (L.Seat s) c
other_after book later c seller q s n holds h apart =
    let enough = enough_tens book later c seller q n holds h in
    let stays = tens_of_another later c seller s n (told_apart seller.0 s.0 (λ e. apart (sym e))) enough in
    let after = parts_of (holder (sold later c seller n)) c q s (presides_after book later c seller q n h) in
    let before = parts_of (holder later) c q s h.presides in
    let same = h.seats s in
    omega arith

-- what the pool has after it
pool_after : (book later : Book) (c : Corp) (seller q : Seat) (n : ℕ) → 10 * n ≤ share (holder book) (L.Seat seller) c → IsSettled book later c seller n q → share (holder (sold later c seller n)) L.Pool c ≡ share (holder book) L.Pool c + 10 * n
pool_after book later c seller q n holds h =
    let enough = enough_tens book later c seller q n holds h in
    let more = tens_pooled later c seller n enough in
    let after = pool_parts (holder (sold later c seller n)) c q (presides_after book later c seller q n h) in
    let before = pool_parts (holder later) c q h.presides in
    let same = h.in_pool in
    omega arith

-- a seat has after the sale what the row says
as_in_row : (book later : Book) (c : Corp) (seller q s : Seat) (n : ℕ) → 10 * n ≤ share (holder book) (L.Seat seller) c → IsSettled book later c seller n q → s.0 < 6 → share (holder (sold later c seller n)) (L.Seat s) c ≡ percent_in (percents_after_sale (holder book) c seller n) s
as_in_row book later c seller q s n holds h few = by_seat (eqb_tells s.0 seller.0)
  where
    by_seat : ((eqb s.0 seller.0 ≡ true) × (s.0 ≡ seller.0)) ⊎ ((eqb s.0 seller.0 ≡ false) × (s.0 ≡ seller.0 → ⊥)) → share (holder (sold later c seller n)) (L.Seat s) c ≡ percent_in (percents_after_sale (holder book) c seller n) s
    by_seat (inl own) =
        let is = row_own (holder book) c seller n s few own.1 in
        let has = seller_after book later c seller q n holds h in
        let same : share (holder (sold later c seller n)) (L.Seat s) c ≡ share (holder (sold later c seller n)) (L.Seat seller) c = ap (λ (k : ℕ). share (holder (sold later c seller n)) (L.Seat (record { 0 = k })) c) own.1 in
        omega arith
    by_seat (inr other) = other_after book later c seller q s n holds h other.1 ∙ sym (row_other (holder book) c seller n s few other.0)

pub sales_move_shares : (c : Corp) (book : Book) (p seller : Seat) (n : ℕ) → IsPresident book c p → p.0 < players book → players book ≤ 6 → MaySell book c p seller n
    → AreSold book (book ++ sale_shares c seller n book) c seller n × PresidentLeads (book ++ sale_shares c seller n book) c (players book)
unfolding sale_shares
sales_move_shares c book p seller n e seated few may =
    let later = book ++ presidency_after_sale c seller n book in
    let set = settled book c p seller n e seated few may in
    let q = set.0 in
    let h = set.1 in
    let whole = after_two (presidency_after_sale c seller n) (moves_lowest_shares c n (L.Seat seller) L.Pool) book in
    let So : Book → Type 0 = λ after. AreSold book after c seller n × PresidentLeads after c (players book) in
    let leads : NobodyHasMore (sold later c seller n) c (players book) q =
    λ (s : Seat) (at : s.0 < players book).
    let at_q = h.at in
    let le = h.most s.0 at in
    let one = as_in_row book later c seller q s n may.holds h (omega arith) in
    let other = as_in_row book later c seller q q n may.holds h (omega arith) in
    omega arith in
    subst So (sym whole) (
      record {
        to_pool = pool_after book later c seller q n may.holds h;
        from_seller = seller_after book later c seller q n may.holds h;
        others = λ s apart. other_after book later c seller q s n may.holds h apart;
      },
      record { seat = q; presides = presides_after book later c seller q n h; leads = leads },
    )
