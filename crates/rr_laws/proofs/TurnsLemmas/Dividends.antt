-- Dividends: the bank alone pays, and never less than nothing.
use Rattle.std.specs.Prelude.{◌≡◌, ℕ, zero, suc, ◌+◌, ◌<◌, ◌≤◌, ℤ, pos, negsuc, ◌*ℤ◌, ◌≤ℤ◌, int_div, true, List, [], ◌∷◌, map, refl}
use Rattle.std.specs.List.{range_with_len}
use Rattle.std.proofs.Common.{sym, subst, arith}
use Rattle.std.proofs.lemmas.Bool.{lt-ltb}
use Rattle.std.proofs.lemmas.Int.{ints}
use Rattle.rr_roster.specs.declared.company.Corp.{Corp}
use Rattle.rr_roster.specs.Chart.Chart.{Row}
use Rattle.rr_books.specs.declared.parties.Money.{Money}
use Rattle.rr_books.specs.declared.parties.Seat.{Seat}
use Rattle.rr_books.specs.declared.parties.Party.{Party}
use Rattle.rr_books.specs.declared.parties.Party.TheVariants as P
use Rattle.rr_books.specs.declared.parties.Place.{Place}
use Rattle.rr_books.specs.declared.parties.Place.TheVariants as L
use Rattle.rr_books.specs.declared.acts.Act.TheVariants as A
use Rattle.rr_books.specs.declared.entries.Entry.TheVariants as E
use Rattle.rr_books.specs.declared.entries.Marker.TheVariants as M
use Rattle.rr_books.specs.Book.{holder}
use Rattle.rr_books.specs.Shares.{share}
use Rattle.rr_books.specs.State.{has_party}
use Rattle.rr_desk.specs.Effects.{adds, in_turn}
use Rattle.rr_market.specs.Moves.{cell_after_paying, cell_after_withholding, dividend_marks, withholding_marks}
use Rattle.rr_operate.specs.Dividends.Dividends.{part, pays_for, pays_out, pays_seat, pays_seats, says, seating, withholds}
use Rattle.rr_laws.specs.Turns.Turns.{IsEarned}
use Rattle.rr_laws.proofs.TurnsLemmas.Turning.{Stays, TurnsOn, stays_none, stays_then, stays_three}
use Rattle.rr_laws.proofs.TurnsLemmas.Quiet.{stays_paid, stays_step, stays_token}

no_less : (k m : ℕ) → pos 0 ≤ℤ int_div (pos k *ℤ pos m) (pos 100)
no_less k m = omega (arith, ints)

-- a part of a revenue
part_earned : (r : ℤ) (percent : ℕ) → pos 0 ≤ℤ r → pos 0 ≤ℤ int_div (r *ℤ pos percent) (pos 100)
part_earned (pos k) percent h = no_less k percent
part_earned (negsuc k) percent h = absurd (omega (arith, ints))

payment_stays : (n : ℕ) (c : Corp) (revenue : Money) (place : Place) (payee : Party) → IsEarned revenue → has_party n payee ≡ true → Stays n (pays_for c revenue place payee)
unfolding pays_for
payment_stays n c revenue place payee earned there o book h =
    stays_paid n payee (part revenue (share (holder book) place c)) (part_earned revenue.0 (share (holder book) place c) earned) there o book h

-- seats from one on
seats_stay : (n : ℕ) (c : Corp) (revenue : Money) → IsEarned revenue → (i k : ℕ) → i + k ≤ n → Stays n (in_turn (map (pays_seat c revenue) (map (λ j. record { 0 = j }) (range_with_len i k))))
seats_stay n c revenue earned i zero within = stays_none n
seats_stay n c revenue earned i (suc k) within =
    let s : Seat = record { 0 = i } in
    let below : i < n = omega arith in
    stays_then n (pays_seat c revenue s) (map (pays_seat c revenue) (map (λ j. record { 0 = j }) (range_with_len (i + 1) k)))
    (payment_stays n c revenue (L.Seat s) (P.Seat s) earned (lt-ltb i n below)) (seats_stay n c revenue earned (i + 1) k (omega arith))

all_stay : (n : ℕ) (c : Corp) (revenue : Money) → IsEarned revenue → Stays n (pays_seats c revenue)
unfolding pays_seats
all_stay n c revenue earned o book h =
    let So : ℕ → Type 0 = λ k. TurnsOn n o book (in_turn (map (pays_seat c revenue) (seating k)) book) in
    subst So (sym h.seated) (seats_stay n c revenue earned 0 n (omega arith) o book h)

pub paid_out_stays : (n : ℕ) (rows : List Row) (c : Corp) (revenue : Money) → IsEarned revenue → Stays n (pays_out rows c revenue)
unfolding pays_out
paid_out_stays n rows c revenue earned =
    let seats = pays_seats c revenue in
    let pool = pays_for c revenue L.Pool (P.Corp c) in
    let marks = dividend_marks rows c in
    stays_then n (says (A.PayOut c)) (seats ∷ pool ∷ marks ∷ []) (stays_step n (M.Act (A.PayOut c)))
    (stays_three n seats pool marks (all_stay n c revenue earned) (payment_stays n c revenue L.Pool (P.Corp c) earned refl) (stays_token n (cell_after_paying rows) c))

pub withheld_stays : (n : ℕ) (rows : List Row) (c : Corp) (revenue : Money) → IsEarned revenue → Stays n (withholds rows c revenue)
unfolding withholds
withheld_stays n rows c revenue earned =
    stays_three n (says (A.Hold c)) (adds (E.Pay P.Bank (P.Corp c) revenue)) (withholding_marks rows c) (stays_step n (M.Act (A.Hold c))) (stays_paid n (P.Corp c) revenue earned refl) (stays_token n (cell_after_withholding rows) c)
