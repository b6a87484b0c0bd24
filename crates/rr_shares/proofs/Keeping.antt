-- A corporation that has a president keeps one.
use Rattle.std.proofs.Common.{◌≡◌, ℕ, Bool, true, false, cond, List, [], ◌∷◌, ◌++◌, zero, suc, Option, None, Some, map, find, is_some, sym, ◌∙◌, ap, refl, append_assoc, append-nil}
use Rattle.std.proofs.lemmas.Bool.{eq-eqb}
use Rattle.rr_roster.specs.declared.company.Corp.{Corp}
use Rattle.rr_roster.specs.Company.{corp_index}
use Rattle.rr_books.specs.declared.parties.Seat.{Seat}
use Rattle.rr_books.specs.declared.parties.Place.{Place}
use Rattle.rr_books.specs.declared.parties.Place.TheVariants as L
use Rattle.rr_books.specs.declared.certificates.ShareNumber.{ShareNumber}
use Rattle.rr_books.specs.declared.certificates.Cert.{Cert}
use Rattle.rr_books.specs.declared.certificates.Cert.TheVariants as C
use Rattle.rr_books.specs.declared.entries.Entry.TheVariants as E
use Rattle.rr_books.specs.Book.{Book, holder, players, holder-push}
use Rattle.rr_books.specs.Shares.{is_at, president, seat_of, share_numbers}
use Rattle.rr_desk.specs.Effects.{Effect, adds, in_turn, moves_if, moves_lowest_share}
use Rattle.rr_shares.specs.declared.succession.Handover.{Handover}
use Rattle.rr_shares.specs.Succession.{handover_after_sale, handover_due}
use Rattle.rr_shares.specs.Effects.{hands_over, hands_over_if, moves_lowest_shares, presidency, presidency_after_sale, sale_shares}

-- a book after two effects
pub after_two : (f g : Effect) (book : Book) → book ++ in_turn (f ∷ g ∷ []) book ≡ (book ++ f book) ++ g (book ++ f book)
after_two f g book =
    ap (λ (more : Book). book ++ (f book ++ more)) (append-nil (g (book ++ f book)))
    ∙ sym (append_assoc book (f book) (g (book ++ f book)))

-- a share that moves isn't the 20% certificate
kept_by_first : (test : Cert → Bool) (c d : Corp) (to : Place) (book : Book) (ns : List ShareNumber) → holder (book ++ moves_if (find test (map (λ n. C.Share c n) ns)) to) (C.President d) ≡ holder book (C.President d)
kept_by_first test c d to book [] = ap (λ (b : Book). holder b (C.President d)) (append-nil book)
kept_by_first test c d to book (n ∷ ns) =
    elim (test (C.Share c n)) as (λ b. holder (book ++ moves_if (cond b (Some (C.Share c n)) (find test (map (λ k. C.Share c k) ns))) to) (C.President d) ≡ holder book (C.President d)) [
      | true ↦ holder-push book (E.Move (C.Share c n) to) (C.President d)
      | false ↦ kept_by_first test c d to book ns
    ]

pub kept_by_shares : (c : Corp) (n : ℕ) (from to : Place) (d : Corp) (book : Book) → holder (book ++ moves_lowest_shares c n from to book) (C.President d) ≡ holder book (C.President d)
unfolding moves_lowest_shares
kept_by_shares c zero from to d book = ap (λ (b : Book). holder b (C.President d)) (append-nil book)
kept_by_shares c (suc n) from to d book =
    let before = book ++ moves_lowest_shares c n from to book in
    ap (λ (b : Book). holder b (C.President d)) (after_two (moves_lowest_shares c n from to) (moves_lowest_share c from to) book)
    ∙ kept_by_first (λ cert. is_at (holder before cert) from) c d to before share_numbers
    ∙ kept_by_shares c n from to d book

-- the new president has the 20% certificate
pub taken_over : (c : Corp) (h : Handover) (book : Book) → holder (book ++ hands_over c h book) (C.President c) ≡ Some (L.Seat h.to)
unfolding hands_over
taken_over c h book =
    let shares = moves_lowest_shares c 2 (L.Seat h.to) (L.Seat h.from) in
    let before = book ++ shares book in
    ap (λ (b : Book). holder b (C.President c)) (after_two shares (adds (E.Move (C.President c) (L.Seat h.to))) book)
    ∙ holder-push before (E.Move (C.President c) (L.Seat h.to)) (C.President c)
    ∙ ap (λ (b : Bool). cond b (Some (L.Seat h.to)) (holder before (C.President c))) (eq-eqb (corp_index c) (corp_index c) refl)

handed_over : (c : Corp) (due : Option Handover) (book : Book) → is_some (president (holder book) c) ≡ true → is_some (president (holder (book ++ hands_over_if c due book)) c) ≡ true
handed_over c None book some = ap (λ (b : Book). is_some (president (holder b) c)) (append-nil book) ∙ some
handed_over c (Some h) book some = ap (λ (place : Option Place). is_some (seat_of place)) (taken_over c h book)

pub stays_with_a_seat : (c : Corp) (book : Book) → is_some (president (holder book) c) ≡ true → is_some (president (holder (book ++ presidency c book)) c) ≡ true
unfolding presidency
stays_with_a_seat c book some = handed_over c (handover_due (holder book) (players book) c) book some

pub sales_keep : (c : Corp) (seller : Seat) (n : ℕ) (book : Book) → is_some (president (holder book) c) ≡ true → is_some (president (holder (book ++ sale_shares c seller n book)) c) ≡ true
unfolding sale_shares presidency_after_sale
sales_keep c seller n book some =
    let before = book ++ presidency_after_sale c seller n book in
    ap (λ (b : Book). is_some (president (holder b) c)) (after_two (presidency_after_sale c seller n) (moves_lowest_shares c n (L.Seat seller) L.Pool) book)
    ∙ ap (λ (place : Option Place). is_some (seat_of place)) (kept_by_shares c n (L.Seat seller) L.Pool c before)
    ∙ handed_over c (handover_after_sale (holder book) (players book) c seller n) book some
