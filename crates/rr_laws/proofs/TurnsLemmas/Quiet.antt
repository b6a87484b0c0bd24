-- Single entries: those that pay nothing, those by which the bank pays, and those by which a corporation pays its dues.
use Rattle.std.specs.Prelude.{◌≡◌, ℕ, ℤ, pos, ◌+ℤ◌, ◌-ℤ◌, ◌≤ℤ◌, Bool, true, false, List, [], ◌∷◌, ◌++◌, Option, None, Some, refl}
use Rattle.std.proofs.Common.{sym, ◌∙◌, subst, arith, cond}
use Rattle.std.proofs.lemmas.Bool.{false≢true}
use Rattle.std.proofs.lemmas.Int.{ints}
use Rattle.rr_roster.specs.declared.company.Private.{Private}
use Rattle.rr_roster.specs.declared.company.Corp.{Corp}
use Rattle.rr_books.specs.declared.parties.Money.{Money}
use Rattle.rr_books.specs.declared.parties.Party.{Party}
use Rattle.rr_books.specs.declared.parties.Party.TheVariants as P
use Rattle.rr_books.specs.declared.parties.Place.{Place}
use Rattle.rr_books.specs.declared.parties.Place.TheVariants as L
use Rattle.rr_books.specs.declared.certificates.Cert.TheVariants as C
use Rattle.rr_books.specs.declared.certificates.Train.{Train}
use Rattle.rr_books.specs.declared.entries.Cell.{Cell}
use Rattle.rr_books.specs.declared.entries.Entry.TheVariants as E
use Rattle.rr_books.specs.declared.entries.Marker.{Marker}
use Rattle.rr_books.specs.Book.{Book, balance, holder}
use Rattle.rr_books.specs.Same.{same_cert, same_corp, same_party}
use Rattle.rr_books.specs.Shares.{is_at}
use Rattle.rr_books.specs.State.{has_party}
use Rattle.rr_desk.specs.Effects.{adds}
use Rattle.rr_desk.specs.Incomes.{dollars}
use Rattle.rr_market.specs.Moves.{mark_at, moves_token}
use Rattle.rr_laws.specs.Soundness.Sound.{IsSolvent}
use Rattle.rr_laws.proofs.SoundnessLemmas.Going.{same_players}
use Rattle.rr_laws.proofs.SoundnessLemmas.Untouched.{IsUntouched, held_after, moved_private, promised_by, same_is, sold_before, spares_best, spares_lay, spares_pay, spares_station, spares_step, spares_token, spares_train}
use Rattle.rr_laws.proofs.TurnsLemmas.Turning.{CanSettle, Dues, Settles, Stays, TurnsOn, no_dues, turns_by, turns_nowhere}

still : (m : ℕ) (x : ℤ) → pos m ≤ℤ x → pos m ≤ℤ ((x +ℤ pos 0) -ℤ pos 0)
still m x h = omega (arith, ints)

pub stays_step : (n : ℕ) (marker : Marker) → Stays n (adds (E.Step marker))
stays_step n marker o book h = turns_by n o o book (E.Step marker) h refl refl refl (λ s. still 0 _ (h.seats s)) (λ c. still (o c) _ (h.corporations c)) (λ c. spares_step c marker book)

pub stays_train : (n : ℕ) (train : Train) (to : Place) → Stays n (adds (E.Train train to))
stays_train n train to o book h = turns_by n o o book (E.Train train to) h refl refl refl (λ s. still 0 _ (h.seats s)) (λ c. still (o c) _ (h.corporations c)) (λ c. spares_train c train to book)

pub stays_lay : (n : ℕ) (hex : List ℕ) (tile turn : ℕ) → Stays n (adds (E.Lay hex tile turn))
stays_lay n hex tile turn o book h = turns_by n o o book (E.Lay hex tile turn) h refl refl refl (λ s. still 0 _ (h.seats s)) (λ c. still (o c) _ (h.corporations c)) (λ c. spares_lay c hex tile turn book)

pub stays_station : (n : ℕ) (d : Corp) (hex : List ℕ) (centre : ℕ) → Stays n (adds (E.Station d hex centre))
stays_station n d hex centre o book h = turns_by n o o book (E.Station d hex centre) h refl refl refl (λ s. still 0 _ (h.seats s)) (λ c. still (o c) _ (h.corporations c)) (λ c. spares_station c d hex centre book)

pub stays_best : (n : ℕ) (d : Corp) (sheet certificate : List ℕ) → Stays n (adds (E.Best d sheet certificate))
stays_best n d sheet certificate o book h = turns_by n o o book (E.Best d sheet certificate) h refl refl refl (λ s. still 0 _ (h.seats s)) (λ c. still (o c) _ (h.corporations c)) (λ c. spares_best c d sheet certificate book)

-- a token that moves on the chart
marked : (n : ℕ) (d : Corp) (to : Option Cell) (o : Dues) (book : Book) → CanSettle n o book → ((c : Corp) → IsUntouched c book (book ++ mark_at d to)) → TurnsOn n o book (mark_at d to)
marked n d None o book h untouched = turns_nowhere n o book h
marked n d (Some cell) o book h untouched = turns_by n o o book (E.Mark d cell) h refl refl refl (λ s. still 0 _ (h.seats s)) (λ c. still (o c) _ (h.corporations c)) untouched

pub stays_token : (n : ℕ) (target : Cell → Option Cell) (d : Corp) → Stays n (moves_token target d)
stays_token n target d o book h = marked n d _ o book h (λ c. spares_token target c d book)

-- a private that a corporation gets, where it hasn't left the game, and one that leaves it
gone_before : (b : Bool) (c : Corp) (x : Option Place) → is_at x L.Gone ≡ false → is_at x L.Gone ≡ true → is_at (cond b (Some (L.Corp c)) x) L.Gone ≡ true
gone_before b c x away h = absurd (false≢true (sym away ∙ h))

kept_gone : (p : Private) (c : Corp) (book : Book) → is_at (holder book (C.Private p)) L.Gone ≡ false → is_at (holder book (C.Private Private.Mh)) L.Gone ≡ true
    → is_at (held_after book (E.Move (C.Private p) (L.Corp c)) (C.Private Private.Mh)) L.Gone ≡ true
kept_gone Private.Mh c book away h = absurd (false≢true (sym away ∙ h))
kept_gone Private.Sv c book away h = h
kept_gone Private.Csl c book away h = h
kept_gone Private.Dh c book away h = h
kept_gone Private.Ca c book away h = h
kept_gone Private.Bo c book away h = h

pub turns_private : (n : ℕ) (o : Dues) (p : Private) (d : Corp) (book : Book) → is_at (holder book (C.Private p)) L.Gone ≡ false → CanSettle n o book → TurnsOn n o book (E.Move (C.Private p) (L.Corp d) ∷ [])
turns_private n o p d book away h =
    let e = E.Move (C.Private p) (L.Corp d) in
    turns_by n o o book e h refl refl refl (λ s. still 0 _ (h.seats s)) (λ c. still (o c) _ (h.corporations c))
    (λ c. moved_private c p (L.Corp d) book refl
    (promised_by (holder book) (held_after book e) c (sold_before (same_cert (C.Private Private.Ca) (C.Private p)) (L.Corp d) (holder book (C.Private Private.Ca)) refl) (kept_gone p d book away)))

left_gone : (b : Bool) (x : Option Place) → is_at x L.Gone ≡ true → is_at (cond b (Some L.Gone) x) L.Gone ≡ true
left_gone true x h = refl
left_gone false x h = h

pub stays_closed : (n : ℕ) (p : Private) → Stays n (adds (E.Move (C.Private p) L.Gone))
stays_closed n p o book h =
    let e = E.Move (C.Private p) L.Gone in
    turns_by n o o book e h refl refl refl (λ s. still 0 _ (h.seats s)) (λ c. still (o c) _ (h.corporations c))
    (λ c. moved_private c p L.Gone book refl
    (promised_by (holder book) (held_after book e) c (sold_before (same_cert (C.Private Private.Ca) (C.Private p)) L.Gone (holder book (C.Private Private.Ca)) refl) (left_gone (same_cert (C.Private Private.Mh) (C.Private p)) (holder book (C.Private Private.Mh)))))

-- the bank pays
got : (b : Bool) (m : ℕ) (a x : ℤ) → pos 0 ≤ℤ a → pos m ≤ℤ x → pos m ≤ℤ ((x +ℤ cond b a (pos 0)) -ℤ pos 0)
got true m a x some h = omega (arith, ints)
got false m a x some h = omega (arith, ints)

pub stays_paid : (n : ℕ) (p : Party) (amount : Money) → pos 0 ≤ℤ amount.0 → has_party n p ≡ true → Stays n (adds (E.Pay P.Bank p amount))
stays_paid n p amount some there o book h =
    turns_by n o o book (E.Pay P.Bank p amount) h (same_players n p there) there refl
    (λ s. got (same_party (P.Seat s) p) 0 amount.0 _ some (h.seats s)) (λ c. got (same_party (P.Corp c) p) (o c) amount.0 _ some (h.corporations c))
    (λ c. spares_pay c P.Bank p amount book)

-- what one corporation will have to pay
abbrev pub due_of : Corp → ℕ → Dues
due_of d m c = cond (same_corp c d) m 0

gains : (b : Bool) (m : ℕ) (x : ℤ) → pos 0 ≤ℤ x → pos 0 ≤ℤ ((x +ℤ cond b (pos m) (pos 0)) -ℤ pos 0)
gains true m x h = omega (arith, ints)
gains false m x h = omega (arith, ints)

spent : (a b : Bool) (m : ℕ) (x : ℤ) → pos (cond b m 0) ≤ℤ x → pos 0 ≤ℤ ((x +ℤ cond a (pos m) (pos 0)) -ℤ cond b (pos m) (pos 0))
spent true true m x h = omega (arith, ints)
spent true false m x h = omega (arith, ints)
spent false true m x h = omega (arith, ints)
spent false false m x h = omega (arith, ints)

-- it pays them to a party of the table
pub settles_due : (n : ℕ) (d : Corp) (to : Party) (m : ℕ) → has_party n to ≡ true → Settles n (due_of d m) no_dues (adds (E.Pay (P.Corp d) to (dollars m)))
settles_due n d to m there book h =
    turns_by n (due_of d m) no_dues book (E.Pay (P.Corp d) to (dollars m)) h (same_players n to there) there refl
    (λ s. gains (same_party (P.Seat s) to) m _ (h.seats s)) (λ c. spent (same_party (P.Corp c) to) (same_corp c d) m _ (h.corporations c))
    (λ c. spares_pay c (P.Corp d) to (dollars m) book)

-- who has the money can pay
pub can_settle : (n : ℕ) (d : Corp) (m : ℕ) (book : Book) → IsSolvent n book → pos m ≤ℤ balance book (P.Corp d) → CanSettle n (due_of d m) book
can_settle n d m book h has = record { seated = h.seated; seats = λ s. h.seats s; corporations = λ c. by_same c (same_corp c d) refl }
  where
    by_same : (c : Corp) (b : Bool) → same_corp c d ≡ b → pos (cond b m 0) ≤ℤ balance book (P.Corp c)
    by_same c false e = h.corporations c
    by_same c true e =
        let Has : Corp → Type 0 = λ x. pos m ≤ℤ balance book (P.Corp x) in
        subst Has (sym (same_is c d e)) has
