-- How many 10% certificates of a corporation are at a place, as they move.
use Rattle.std.proofs.Common.{◌≡◌, ℕ, ◌+◌, ◌<◌, Bool, true, false, cond, ◌&&◌, ◌⊎◌, inl, inr, eqb, List, [], ◌∷◌, ◌++◌, Option, None, Some, map, find, count_by, sym, ◌∙◌, ap, refl, arith}
use Rattle.std.proofs.Math.Path.{fun_ext}
use Rattle.std.proofs.lemmas.Bool.{eq-eqb, eqb-true, false≢true}
use Rattle.std.proofs.lemmas.List.Sums.{sum_by-cons}
use Rattle.rr_roster.specs.declared.company.Corp.{Corp}
use Rattle.rr_roster.specs.Company.{corp_index}
use Rattle.rr_books.specs.declared.parties.Seat.{Seat}
use Rattle.rr_books.specs.declared.parties.Place.{Place}
use Rattle.rr_books.specs.declared.parties.Place.TheVariants as L
use Rattle.rr_books.specs.declared.certificates.ShareNumber.{ShareNumber}
use Rattle.rr_books.specs.declared.certificates.ShareNumber.TheVariants as N
use Rattle.rr_books.specs.declared.certificates.Cert.{Cert}
use Rattle.rr_books.specs.declared.certificates.Cert.TheVariants as C
use Rattle.rr_books.specs.declared.entries.Entry.TheVariants as E
use Rattle.rr_books.specs.Same.{same_place, share_number}
use Rattle.rr_books.specs.Book.{Book, holder, holder-push}
use Rattle.rr_books.specs.Shares.{Holders, is_at, share_numbers}
use Rattle.rr_desk.specs.Effects.{moves_if, moves_lowest_share}

-- who holds each 10% certificate of one corporation
abbrev pub Numbered : Type 0
Numbered = ShareNumber → Option Place

abbrev pub numbered : Holders → Corp → Numbered
numbered H c n = H (C.Share c n)

-- how many of them are at a place
abbrev pub tens : Numbered → Place → ℕ
tens x place = count_by (λ n. is_at (x n) place) share_numbers

-- the certificate m goes to a place
abbrev moved : Bool → ShareNumber → Place → Numbered → Numbered
moved b m to x k = cond (b && eqb (share_number k) (share_number m)) (Some to) (x k)

tens_moved : (x : Numbered) (m : ShareNumber) (to place : Place) → tens (moved true m to x) place + cond (is_at (x m) place) 1 0 ≡ tens x place + cond (same_place to place) 1 0
tens_moved x N.One to place = omega arith
tens_moved x N.Two to place = omega arith
tens_moved x N.Three to place = omega arith
tens_moved x N.Four to place = omega arith
tens_moved x N.Five to place = omega arith
tens_moved x N.Six to place = omega arith
tens_moved x N.Seven to place = omega arith
tens_moved x N.Eight to place = omega arith

-- none passes, or the first that does is one of the corporation's
abbrev IsFirst : (Cert → Bool) → Corp → List ShareNumber → Type 0
IsFirst test c ns =
    ((find test (map (λ n. C.Share c n) ns) ≡ None) × (count_by (λ n. test (C.Share c n)) ns ≡ 0))
    ⊎ ((m : ShareNumber) × (find test (map (λ n. C.Share c n) ns) ≡ Some (C.Share c m)) × (test (C.Share c m) ≡ true))

first_with : (test : Cert → Bool) (c : Corp) (n : ShareNumber) (ns : List ShareNumber) (b : Bool) → test (C.Share c n) ≡ b → IsFirst test c ns → IsFirst test c (n ∷ ns)
first_with test c n ns true e rest = inr (n, ap (λ (b : Bool). cond b (Some (C.Share c n)) (find test (map (λ k. C.Share c k) ns))) e, e)
first_with test c n ns false e (inl none) =
    inl (
      ap (λ (b : Bool). cond b (Some (C.Share c n)) (find test (map (λ k. C.Share c k) ns))) e ∙ none.0,
      sum_by-cons (λ k. cond (test (C.Share c k)) 1 0) n ns ∙ ap (λ (b : Bool). cond b 1 0 + count_by (λ k. test (C.Share c k)) ns) e ∙ ap (λ k. 0 + k) none.1,
    )
first_with test c n ns false e (inr one) =
    inr (one.0, ap (λ (b : Bool). cond b (Some (C.Share c n)) (find test (map (λ k. C.Share c k) ns))) e ∙ one.1, one.2)

first_of_shares : (test : Cert → Bool) (c : Corp) (ns : List ShareNumber) → IsFirst test c ns
first_of_shares test c [] = inl (refl, refl)
first_of_shares test c (n ∷ ns) = first_with test c n ns (test (C.Share c n)) refl (first_of_shares test c ns)

-- what is at a seat is at no other place
pub at_seat : (x : Option Place) (s : Seat) → is_at x (L.Seat s) ≡ true → x ≡ Some (L.Seat s)
at_seat None s e = absurd (false≢true e)
at_seat (Some (L.Seat t)) s e = ap (λ (n : ℕ). Some (L.Seat (record { 0 = n }))) (eqb-true t.0 s.0 e)
at_seat (Some (L.Corp d)) s e = absurd (false≢true e)
at_seat (Some L.Offer) s e = absurd (false≢true e)
at_seat (Some L.Pool) s e = absurd (false≢true e)
at_seat (Some L.Gone) s e = absurd (false≢true e)

holders_moved : (book : Book) (c : Corp) (m : ShareNumber) (to : Place) → numbered (holder (book ++ E.Move (C.Share c m) to ∷ [])) c ≡ moved true m to (numbered (holder book) c)
holders_moved book c m to =
    fun_ext (λ (k : ShareNumber). holder-push book (E.Move (C.Share c m) to) (C.Share c k)
    ∙ ap (λ (b : Bool). moved b m to (numbered (holder book) c) k) (eq-eqb (corp_index c) (corp_index c) refl))

-- how many a place has after a seat with some gave its lowest to a place
pub tens_after_one : (book : Book) (c : Corp) (giver : Seat) (to place : Place) → 0 < tens (numbered (holder book) c) (L.Seat giver)
    → tens (numbered (holder (book ++ moves_lowest_share c (L.Seat giver) to book)) c) place + cond (same_place (L.Seat giver) place) 1 0 ≡ tens (numbered (holder book) c) place + cond (same_place to place) 1 0
tens_after_one book c giver to place some = by_first (first_of_shares (λ cert. is_at (holder book cert) (L.Seat giver)) c share_numbers)
  where
    by_first : IsFirst (λ cert. is_at (holder book cert) (L.Seat giver)) c share_numbers → tens (numbered (holder (book ++ moves_lowest_share c (L.Seat giver) to book)) c) place + cond (same_place (L.Seat giver) place) 1 0 ≡ tens (numbered (holder book) c) place + cond (same_place to place) 1 0
    by_first (inl none) = let zero_there = none.1 in absurd (omega arith)
    by_first (inr one) =
        let m = one.0 in
        let moves : tens (numbered (holder (book ++ moves_lowest_share c (L.Seat giver) to book)) c) place ≡ tens (moved true m to (numbered (holder book) c)) place =
        ap (λ (o : Option Cert). tens (numbered (holder (book ++ moves_if o to)) c) place) one.1
        ∙ ap (λ (x : Numbered). tens x place) (holders_moved book c m to) in
        let there : cond (is_at (holder book (C.Share c m)) place) 1 0 ≡ cond (same_place (L.Seat giver) place) 1 0 =
        ap (λ (x : Option Place). cond (is_at x place) 1 0) (at_seat (holder book (C.Share c m)) giver one.2) in
        let counts = tens_moved (numbered (holder book) c) m to place in
        ap (λ k. k + cond (same_place (L.Seat giver) place) 1 0) moves
        ∙ ap (λ k. tens (moved true m to (numbered (holder book) c)) place + k) (sym there)
        ∙ counts
