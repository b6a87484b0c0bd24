-- Why the seat in turn sits at the table.
use Rattle.std.specs.Prelude.{◌≡◌, ℕ, ◌+◌, ◌<◌, ◌≤◌, Bool, true, false, nat_lt, [], ◌∷◌, fold, refl, if◌then◌else◌}
use Rattle.std.proofs.Common.{arith, cond}
use Rattle.std.proofs.lemmas.Bool.Decides.{nat_tests}
use Rattle.rr_books.specs.declared.parties.Seat.{Seat}
use Rattle.rr_books.specs.declared.parties.Place.TheVariants as L
use Rattle.rr_books.specs.declared.certificates.Cert.TheVariants as C
use Rattle.rr_books.specs.declared.entries.Entry.{Entry}
use Rattle.rr_books.specs.declared.entries.Entry.TheVariants as E
use Rattle.rr_books.specs.declared.entries.Marker.{Marker}
use Rattle.rr_books.specs.declared.entries.Marker.TheVariants as M
use Rattle.rr_books.specs.declared.acts.Act.{Act}
use Rattle.rr_books.specs.declared.acts.Act.TheVariants as A
use Rattle.rr_books.specs.Book.{Book, players}
use Rattle.rr_books.specs.Seating.{left_of}
use Rattle.rr_rounds.specs.Round.{Round, after, after_act, after_step, beginning, progress}
use Rattle.rr_rounds.specs.Counts.{players-shown}

-- where no more than n sit at the table, the seats in turn and with priority are among the first n
abbrev IsSeated : ℕ → Round → Type 0
IsSeated n r = r.players ≤ n → (r.turn.0 < n) × (r.priority.0 < n)

next_below : (m k n : ℕ) → nat_lt m k ≡ true → k ≤ n → m < n
next_below m k n h le = grind (arith, nat_tests)

left_within : (n k : ℕ) (s : Seat) → 0 < n → k ≤ n → (left_of k s).0 < n
left_within n k s some le = by_test (nat_lt (s.0 + 1) k) refl
  where
    by_test : (b : Bool) → nat_lt (s.0 + 1) k ≡ b → (cond {A = Seat} b (record { 0 = s.0 + 1 }) (record { 0 = 0 })).0 < n
    by_test true e = next_below (s.0 + 1) k n e le
    by_test false e = some

by_act : (n : ℕ) → 0 < n → (r : Round) (act : Act) → IsSeated n r → IsSeated n (after_act act r)
by_act n some r (A.Par s c price) h = λ few. ((h few).0, left_within n r.players s some few)
by_act n some r (A.BuyShare s c source) h = λ few. ((h few).0, left_within n r.players s some few)
by_act n some r (A.Sell s c k) h = λ few. ((h few).0, left_within n r.players s some few)
by_act n some r (A.Done s) h = λ few. (left_within n r.players s some few, (h few).1)
by_act n some r _ h = h

by_counted : (n : ℕ) → 0 < n → (r : Round) (act : Act) (b : Bool) → IsSeated n r → IsSeated n (if b then after_act act r else r)
by_counted n some r act true h = by_act n some r act h
by_counted n some r act false h = h

by_step : (n : ℕ) → 0 < n → (r : Round) (marker : Marker) → IsSeated n r → IsSeated n (after_step marker r)
by_step n some r (M.Act act) h = by_counted n some r act r.under_way h
by_step n some r M.Stock h = λ few. ((h few).1, (h few).1)
by_step n some r (M.Float c) h = h
by_step n some r M.Operating h = h
by_step n some r (M.Auction names) h = h

by_entry : (n : ℕ) → 0 < n → (r : Round) (e : Entry) → IsSeated n r → IsSeated n (after r e)
by_entry n some r (E.Pay from to amount) h = λ few. h (omega arith)
by_entry n some r (E.Move (C.Private p) (L.Seat s)) h = λ few. ((h few).0, left_within n r.players s some few)
by_entry n some r (E.Step marker) h = by_step n some r marker h
by_entry n some r _ h = h

by_entries : (n : ℕ) → 0 < n → (r : Round) (es : Book) → IsSeated n r → IsSeated n (fold after r es)
by_entries n some r [] h = h
by_entries n some r (e ∷ es) h = by_entries n some (after r e) es (by_entry n some r e h)

pub seated : (book : Book) → 0 < players book → ((progress book).turn.0 < players book) × ((progress book).priority.0 < players book)
unfolding progress
seated book some =
    let same = players-shown book (fold after beginning book) refl in
    by_entries (players book) some beginning book (λ few. (some, some)) (omega arith)
