-- The seats are paid one after another.
use Rattle.std.specs.Prelude.{◌≡◌, ℕ, ◌+◌, List, [], ◌∷◌, ◌++◌, map}
use Rattle.std.proofs.Common.{sym, ◌∙◌, ap, subst, arith}
use Rattle.std.proofs.lemmas.List.{map-append}
use Rattle.std.proofs.lemmas.List.FromFn.{map-range_with_len_more}
use Rattle.rr_roster.specs.declared.company.Corp.{Corp}
use Rattle.rr_books.specs.declared.parties.Money.{Money}
use Rattle.rr_books.specs.declared.parties.Seat.{Seat}
use Rattle.rr_books.specs.Book.{Book, players}
use Rattle.rr_desk.specs.Position.Position.{IsPositionOf}
use Rattle.rr_desk.specs.Effects.{Effect, in_turn}
use Rattle.rr_desk.specs.Desk.{OnDesk, Takes}
use Rattle.rr_desk.proofs.Taking.{takes_last, takes_same}
use Rattle.rr_operate.specs.Dividends.Dividends.{pays_seat, pays_seats, seating}

seating-more : (n : ℕ) → seating (n + 1) ≡ seating n ++ record { 0 = n } ∷ []
seating-more n = map-range_with_len_more (λ k. let s : Seat = record { 0 = k } in s) 0 n n (omega arith)

-- one seat more is paid
pub takes_seat : (c : Corp) (revenue : Money) (n : ℕ) (a b d : OnDesk) → Takes (in_turn (map (pays_seat c revenue) (seating n))) a b → Takes (pays_seat c revenue (record { 0 = n })) b d → Takes (in_turn (map (pays_seat c revenue) (seating (n + 1)))) a d
takes_seat c revenue n a b d others last =
    let pays = pays_seat c revenue in
    let s : Seat = record { 0 = n } in
    let same : map pays (seating (n + 1)) ≡ map pays (seating n) ++ pays s ∷ [] = ap (λ ss. map pays ss) (seating-more n) ∙ map-append pays (seating n) (s ∷ []) in
    subst (λ (fs : List Effect). Takes (in_turn fs) a d) (sym same) (takes_last (map pays (seating n)) (pays s) a b d others last)

-- all seats are paid
pub takes_seats : (c : Corp) (revenue : Money) (n : ℕ) (a b : OnDesk) → ((book : Book) → IsPositionOf book a.position → n ≡ players book) → Takes (in_turn (map (pays_seat c revenue) (seating n))) a b → Takes (pays_seats c revenue) a b
unfolding pays_seats
takes_seats c revenue n a b all taken =
    takes_same (in_turn (map (pays_seat c revenue) (seating n))) (pays_seats c revenue) a b
    (λ book h. ap (λ (m : ℕ). in_turn (map (pays_seat c revenue) (seating m)) book) (all book h))
    taken
