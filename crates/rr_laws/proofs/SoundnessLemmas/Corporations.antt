-- Effects by which nobody but the bank pays leave a table solvent.
use Rattle.std.specs.Prelude.{◌≡◌, ℕ, zero, suc, ◌+◌, ◌*◌, ◌%◌, ◌<◌, Bool, true, false, nat_lt, List, [], ◌∷◌, Option, None, Some, find, map, refl, if◌then◌else◌}
use Rattle.std.proofs.Common.{sym, subst, arith, cond}
use Rattle.std.proofs.Math.Nat.{mod-lt}
use Rattle.std.proofs.lemmas.Bool.{lt-ltb}
use Rattle.std.proofs.lemmas.Bool.Decides.{nat_tests}
use Rattle.rr_roster.specs.declared.company.Corp.{Corp}
use Rattle.rr_books.specs.declared.parties.Seat.{Seat}
use Rattle.rr_books.specs.declared.parties.Party.TheVariants as P
use Rattle.rr_books.specs.declared.parties.Place.{Place}
use Rattle.rr_books.specs.declared.parties.Place.TheVariants as L
use Rattle.rr_books.specs.declared.certificates.Cert.{Cert}
use Rattle.rr_books.specs.declared.certificates.Cert.TheVariants as C
use Rattle.rr_books.specs.declared.entries.Cell.{Cell}
use Rattle.rr_books.specs.declared.entries.Entry.TheVariants as E
use Rattle.rr_books.specs.declared.entries.Marker.TheVariants as M
use Rattle.rr_books.specs.Book.{Book, holder, players}
use Rattle.rr_books.specs.Shares.{president}
use Rattle.rr_books.specs.State.{has_place}
use Rattle.rr_desk.specs.Effects.{Effect, adds, in_turn, lowest_share, moves_if, moves_lowest_share}
use Rattle.rr_desk.specs.Incomes.{dollars}
use Rattle.rr_shares.specs.declared.succession.Handover.{Handover}
use Rattle.rr_shares.specs.Holdings.{Percents, heir, percents, percents_after_sale, succeeds}
use Rattle.rr_shares.specs.Succession.{at_table, handover_after_sale, handover_by, handover_due, handover_from}
use Rattle.rr_shares.specs.Effects.{float, float_if_due, float_of, floats_now, hands_over, hands_over_if, moves_lowest_shares, presidency, presidency_after_sale, sale_shares}
use Rattle.rr_market.specs.Moves.{mark_at}
use Rattle.rr_laws.proofs.SoundnessLemmas.Going.{CanPay, Debts, GoesOn, Keeps, keeps_mark, keeps_move, keeps_none, keeps_paid, keeps_step, keeps_two}

-- the seat, if there is one, is among the first n
abbrev Within : ℕ → Option Seat → Type 0
Within n None = Unit {0}
Within n (Some s) = s.0 < n

-- so are both seats of a handover
abbrev Handed : ℕ → Option Handover → Type 0
Handed n None = Unit {0}
Handed n (Some h) = (h.from.0 < n) × (h.to.0 < n)

found_within : (n : ℕ) → 0 < n → (s : Seat) (test : Seat → Bool) (ks : List ℕ) → Within n (find test (map (λ k. record { 0 = (s.0 + k) % n }) ks))
found_within n some s test [] = tt
found_within n some s test (k ∷ ks) = by_test (test (record { 0 = (s.0 + k) % n })) (found_within n some s test ks)
  where
    by_test : (b : Bool) → Within n (find test (map (λ j. record { 0 = (s.0 + j) % n }) ks)) → Within n (cond b (Some (record { 0 = (s.0 + k) % n })) (find test (map (λ j. record { 0 = (s.0 + j) % n }) ks)))
    by_test true others = mod-lt (s.0 + k) some
    by_test false others = others

heir_within : (row : Percents) (n : ℕ) (s : Seat) → 0 < n → Within n (heir row n s)
unfolding heir
heir_within row n s some = found_within n some s (succeeds row n s) _

handed_from : (n : ℕ) (old : Seat) (o : Option Seat) → old.0 < n → Within n o → Handed n (handover_from old o)
handed_from n old None at h = tt
handed_from n old (Some s) at h = (at, h)

handed_by : (row : Percents) (n : ℕ) (o : Option Seat) → 0 < n → Within n o → Handed n (handover_by row n o)
handed_by row n None some h = tt
handed_by row n (Some s) some h = handed_from n s (heir row n s) h (heir_within row n s some)

below : (m n : ℕ) → nat_lt m n ≡ true → m < n
below m n h = grind (arith, nat_tests)

seat_within : (n : ℕ) (o : Option Seat) → Within n (at_table n o)
seat_within n None = tt
seat_within n (Some s) = by_test (nat_lt s.0 n) refl
  where
    by_test : (b : Bool) → nat_lt s.0 n ≡ b → Within n (cond b (Some s) None)
    by_test true e = below s.0 n e
    by_test false e = tt

keeps_moves_if : (n : ℕ) (cert : Option Cert) (to : Place) → has_place n to ≡ true → (o : Debts) (book : Book) → CanPay n o book → GoesOn n o book (moves_if cert to)
keeps_moves_if n None to there = keeps_none n
keeps_moves_if n (Some cert) to there = keeps_move n cert to there

pub keeps_lowest : (n : ℕ) (c : Corp) (from to : Place) → has_place n to ≡ true → Keeps n (moves_lowest_share c from to)
keeps_lowest n c from to there o book h = keeps_moves_if n (lowest_share (holder book) c from) to there o book h

keeps_several : (n : ℕ) (c : Corp) (k : ℕ) (from to : Place) → has_place n to ≡ true → Keeps n (moves_lowest_shares c k from to)
unfolding moves_lowest_shares
keeps_several n c zero from to there = keeps_none n
keeps_several n c (suc k) from to there = keeps_two n (moves_lowest_shares c k from to) (moves_lowest_share c from to) (keeps_several n c k from to there) (keeps_lowest n c from to there)

keeps_handover : (n : ℕ) (c : Corp) (h : Handover) → h.from.0 < n → h.to.0 < n → Keeps n (hands_over c h)
unfolding hands_over
keeps_handover n c h from to =
    keeps_two n (moves_lowest_shares c 2 (L.Seat h.to) (L.Seat h.from)) (adds (E.Move (C.President c) (L.Seat h.to))) (keeps_several n c 2 (L.Seat h.to) (L.Seat h.from) (lt-ltb h.from.0 n from))
    (keeps_move n (C.President c) (L.Seat h.to) (lt-ltb h.to.0 n to))

keeps_handover_if : (n : ℕ) (c : Corp) (h : Option Handover) → Handed n h → Keeps n (hands_over_if c h)
keeps_handover_if n c None at = keeps_none n
keeps_handover_if n c (Some h) at = keeps_handover n c h at.0 at.1

-- what depends on the number of players of the book
at_players : (n : ℕ) (c : Corp) (f : ℕ → Option Handover) (o : Debts) (book : Book) → CanPay n o book → Handed n (f n) → GoesOn n o book (hands_over_if c (f (players book)) book)
at_players n c f o book h at =
    let So : ℕ → Type 0 = λ k. GoesOn n o book (hands_over_if c (f k) book) in
    subst So (sym h.seated) (keeps_handover_if n c (f n) at o book h)

keeps_presidency : (n : ℕ) → 0 < n → (c : Corp) → Keeps n (presidency c)
unfolding presidency handover_due
keeps_presidency n some c o book h =
    at_players n c (λ k. handover_by (percents (holder book) c) k (at_table k (president (holder book) c))) o book h
    (handed_by (percents (holder book) c) n (at_table n (president (holder book) c)) some (seat_within n (president (holder book) c)))

keeps_after_sale : (n : ℕ) → 0 < n → (c : Corp) (s : Seat) (k : ℕ) → Keeps n (presidency_after_sale c s k)
unfolding presidency_after_sale handover_after_sale
keeps_after_sale n some c s k o book h =
    at_players n c (λ m. handover_by (percents_after_sale (holder book) c s k) m (at_table m (president (holder book) c))) o book h
    (handed_by (percents_after_sale (holder book) c s k) n (at_table n (president (holder book) c)) some (seat_within n (president (holder book) c)))

pub keeps_sale : (n : ℕ) → 0 < n → (c : Corp) (s : Seat) (k : ℕ) → Keeps n (sale_shares c s k)
unfolding sale_shares
keeps_sale n some c s k =
    keeps_two n (presidency_after_sale c s k) (moves_lowest_shares c k (L.Seat s) L.Pool) (keeps_after_sale n some c s k) (keeps_several n c k (L.Seat s) L.Pool refl)

keeps_float_of : (n : ℕ) (c : Corp) (par : Option ℕ) → Keeps n (float_of c par)
unfolding float
keeps_float_of n c None = keeps_none n
keeps_float_of n c (Some par) = keeps_two n (adds (E.Pay P.Bank (P.Corp c) (dollars (10 * par)))) (adds (E.Step (M.Float c))) (keeps_paid n (P.Corp c) (10 * par) refl) (keeps_step n (M.Float c))

keeps_chosen : (n : ℕ) (b : Bool) (f : Effect) → Keeps n f → Keeps n (if b then f else in_turn [])
keeps_chosen n true f h = h
keeps_chosen n false f h = keeps_none n

pub keeps_float : (n : ℕ) (c : Corp) (par : Option ℕ) (floated : Bool) → Keeps n (float_if_due c par floated)
unfolding float_if_due
keeps_float n c par floated o book h = keeps_chosen n (floats_now (holder book) c par floated) (float_of c par) (keeps_float_of n c par) o book h

pub keeps_settled : (n : ℕ) → 0 < n → (c : Corp) (par : Option ℕ) (floated : Bool) → Keeps n (in_turn (presidency c ∷ float_if_due c par floated ∷ []))
keeps_settled n some c par floated = keeps_two n (presidency c) (float_if_due c par floated) (keeps_presidency n some c) (keeps_float n c par floated)

pub keeps_mark_at : (n : ℕ) (c : Corp) (cell : Option Cell) (o : Debts) (book : Book) → CanPay n o book → GoesOn n o book (mark_at c cell)
keeps_mark_at n c None = keeps_none n
keeps_mark_at n c (Some cell) = keeps_mark n c cell
