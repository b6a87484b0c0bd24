-- What a seat has of a corporation of which it gets a certificate.
use Rattle.std.specs.Prelude.{◌≡◌, ℕ, ◌+◌, ◌*◌, ◌≤◌, Bool, true, false, cond, ◌&&◌, ◌==◌, ◌⊎◌, [], ◌∷◌, ◌++◌, List, Option, Some, find, map, refl, count_by}
use Rattle.std.proofs.Common.{◌∙◌, ap, arith, inl, inr, eqb, append-nil}
use Rattle.std.proofs.lemmas.Bool.{eq-eqb}
use Rattle.std.proofs.lemmas.Bool.Decides.{eqb_tells}
use Rattle.rr_roster.specs.declared.company.Corp.{Corp}
use Rattle.rr_roster.specs.Company.{corp_index}
use Rattle.rr_books.specs.declared.parties.Seat.{Seat}
use Rattle.rr_books.specs.declared.parties.Place.{Place}
use Rattle.rr_books.specs.declared.parties.Place.TheVariants as L
use Rattle.rr_books.specs.declared.certificates.ShareNumber.{ShareNumber}
use Rattle.rr_books.specs.declared.certificates.ShareNumber.TheVariants as N
use Rattle.rr_books.specs.declared.certificates.Cert.{Cert}
use Rattle.rr_books.specs.declared.certificates.Cert.TheVariants as C
use Rattle.rr_books.specs.declared.entries.Entry.TheVariants as E
use Rattle.rr_books.specs.Book.{Book, holder, holder-push}
use Rattle.rr_books.specs.Same.{same_corp, same_place, share_number}
use Rattle.rr_books.specs.Shares.{Holders, is_at, share, share_numbers}
use Rattle.rr_books.specs.ShareLaws.{share-parts}
use Rattle.rr_desk.specs.Effects.{moves_if, moves_lowest_share}
use Rattle.rr_shares.specs.Presidents.{NobodyHasMore}
use Rattle.rr_shares.proofs.Counting.{Numbered, numbered, tens}
use Rattle.rr_shares.proofs.Handovers.{parts_of, shares_stay}
use Rattle.rr_laws.specs.Soundness.Presidencies.{IsOffered}

-- just one 10% certificate has the number
moved_once : (m : ShareNumber) → count_by (λ n. share_number n == share_number m) share_numbers ≡ 1
moved_once N.One = refl
moved_once N.Two = refl
moved_once N.Three = refl
moved_once N.Four = refl
moved_once N.Five = refl
moved_once N.Six = refl
moved_once N.Seven = refl
moved_once N.Eight = refl

-- where one 10% certificate comes to a place at most, that has at most 10% more
ten_more : (H K : Holders) (c : Corp) (m : ShareNumber) (place : Place) → K (C.President c) ≡ H (C.President c)
    → ((n : ShareNumber) → cond {A = ℕ} (is_at (K (C.Share c n)) place) 1 0 ≤ cond {A = ℕ} (is_at (H (C.Share c n)) place) 1 0 + cond {A = ℕ} (share_number n == share_number m) 1 0)
    → share K place c ≤ share H place c + 10
ten_more H K c m place same h =
    let after = share-parts K place c in
    let before = share-parts H place c in
    let president : cond {A = ℕ} (is_at (K (C.President c)) place) 20 0 ≡ cond {A = ℕ} (is_at (H (C.President c)) place) 20 0 = ap (λ (x : Option Place). cond {A = ℕ} (is_at x place) 20 0) same in
    let moved = moved_once m in
    omega (arith, h N.One, h N.Two, h N.Three, h N.Four, h N.Five, h N.Six, h N.Seven, h N.Eight)

flag : (b : Bool) → cond {A = ℕ} b 1 0 ≤ 1
flag true = omega arith
flag false = omega arith

came : (b d : Bool) (to place : Place) (x : Option Place) → cond {A = ℕ} (is_at (cond (b && d) (Some to) x) place) 1 0 ≤ cond {A = ℕ} (is_at x place) 1 0 + cond {A = ℕ} d 1 0
came true true to place x = let one = flag (same_place to place) in omega arith
came true false to place x = omega arith
came false d to place x = omega arith

more_by_share : (c : Corp) (m : ShareNumber) (to place : Place) (book : Book) → share (holder (book ++ E.Move (C.Share c m) to ∷ [])) place c ≤ share (holder book) place c + 10
more_by_share c m to place book =
    let e = E.Move (C.Share c m) to in
    ten_more (holder book) (holder (book ++ e ∷ [])) c m place (holder-push book e (C.President c))
    (λ n.
    let is = ap (λ (x : Option Place). cond {A = ℕ} (is_at x place) 1 0) (holder-push book e (C.Share c n)) in
    let high = came (same_corp c c) (share_number n == share_number m) to place (holder book (C.Share c n)) in
    omega arith)

more_by_first : (test : Cert → Bool) (c : Corp) (to place : Place) (book : Book) (ns : List ShareNumber) → share (holder (book ++ moves_if (find test (map (λ n. C.Share c n) ns)) to)) place c ≤ share (holder book) place c + 10
more_by_first test c to place book [] = let same = ap (λ (b : Book). share (holder b) place c) (append-nil book) in omega arith
more_by_first test c to place book (n ∷ ns) =
    elim (test (C.Share c n)) as (λ b. share (holder (book ++ moves_if (cond b (Some (C.Share c n)) (find test (map (λ k. C.Share c k) ns))) to)) place c ≤ share (holder book) place c + 10) [
      | true ↦ more_by_share c n to place book
      | false ↦ more_by_first test c to place book ns
    ]

-- as the lowest 10% certificate of some place goes to another, each place has at most 10% more
pub more_by_lowest : (c : Corp) (from to place : Place) (book : Book) → share (holder (book ++ moves_lowest_share c from to book)) place c ≤ share (holder book) place c + 10
more_by_lowest c from to place book = more_by_first (λ cert. is_at (holder book cert) from) c to place book share_numbers

-- the 20% certificate is where it goes
pub goes_there : (c : Corp) (to : Place) (book : Book) → holder (book ++ E.Move (C.President c) to ∷ []) (C.President c) ≡ Some to
goes_there c to book =
    holder-push book (E.Move (C.President c) to) (C.President c)
    ∙ ap (λ (b : Bool). cond b (Some to) (holder book (C.President c))) (eq-eqb (corp_index c) (corp_index c) refl)

-- whoever takes it from the offering has the most, where nobody has more than it is
pub taken_leads : (n : ℕ) (book : Book) (c : Corp) (s : Seat) → IsOffered book c → ((t : Seat) → share (holder book) (L.Seat t) c ≤ 20) → NobodyHasMore (book ++ E.Move (C.President c) (L.Seat s) ∷ []) c n s
taken_leads n book c s offered low t at = by_seat (eqb_tells s.0 t.0)
  where
    before : (r : Seat) → share (holder book) (L.Seat r) c ≡ 10 * tens (numbered (holder book) c) (L.Seat r)
    before r =
        let parts = share-parts (holder book) (L.Seat r) c ∙ ap (λ (x : Option Place). cond (is_at x (L.Seat r)) 20 0 + 10 * tens (numbered (holder book) c) (L.Seat r)) offered in
        omega arith

    after : (r : Seat) → share (holder (book ++ E.Move (C.President c) (L.Seat s) ∷ [])) (L.Seat r) c ≡ 20 * cond {A = ℕ} (same_place (L.Seat s) (L.Seat r)) 1 0 + share (holder book) (L.Seat r) c
    after r =
        let parts = parts_of (holder (book ++ E.Move (C.President c) (L.Seat s) ∷ [])) c s r (goes_there c (L.Seat s) book) in
        let same = ap (λ (x : Numbered). tens x (L.Seat r)) (shares_stay book c (L.Seat s)) in
        let had = before r in
        omega arith

    by_seat : ((eqb s.0 t.0 ≡ true) × (s.0 ≡ t.0)) ⊎ ((eqb s.0 t.0 ≡ false) × (s.0 ≡ t.0 → ⊥)) → share (holder (book ++ E.Move (C.President c) (L.Seat s) ∷ [])) (L.Seat t) c ≤ share (holder (book ++ E.Move (C.President c) (L.Seat s) ∷ [])) (L.Seat s) c
    by_seat (inl own) =
        let same : share (holder (book ++ E.Move (C.President c) (L.Seat s) ∷ [])) (L.Seat s) c ≡ share (holder (book ++ E.Move (C.President c) (L.Seat s) ∷ [])) (L.Seat t) c = ap (λ (k : ℕ). share (holder (book ++ E.Move (C.President c) (L.Seat s) ∷ [])) (L.Seat (record { 0 = k })) c) own.1 in
        omega arith
    by_seat (inr other) =
        let its = after t in
        let own = after s in
        let none : cond {A = ℕ} (same_place (L.Seat s) (L.Seat t)) 1 0 ≡ 0 = ap (λ (b : Bool). cond {A = ℕ} b 1 0) other.0 in
        let one : cond {A = ℕ} (same_place (L.Seat s) (L.Seat s)) 1 0 ≡ 1 = ap (λ (b : Bool). cond {A = ℕ} b 1 0) (eq-eqb s.0 s.0 refl) in
        let few = low t in
        omega arith
