-- A table that stays solvent as entries follow on its book.
use Rattle.std.specs.Prelude.{◌≡◌, ℕ, ◌+◌, ◌<◌, max, ℤ, pos, ◌+ℤ◌, ◌-ℤ◌, ◌≤ℤ◌, Bool, true, false, ◌&&◌, List, [], ◌∷◌, ◌++◌, refl}
use Rattle.std.specs.List.{list_all}
use Rattle.std.proofs.Common.{sym, ◌∙◌, ap, subst, arith, cond, append_assoc, append-nil}
use Rattle.std.proofs.lemmas.Bool.{eqb-true, lt-ltb}
use Rattle.std.proofs.lemmas.Bool.Decides.{nat_tests}
use Rattle.std.proofs.lemmas.Int.{ints}
use Rattle.std.proofs.lemmas.List.Folds.{list_all-append}
use Rattle.rr_roster.specs.declared.company.Corp.{Corp}
use Rattle.rr_books.specs.declared.parties.Seat.{Seat}
use Rattle.rr_books.specs.declared.parties.Party.{Party}
use Rattle.rr_books.specs.declared.parties.Party.TheVariants as P
use Rattle.rr_books.specs.declared.parties.Place.{Place}
use Rattle.rr_books.specs.declared.certificates.Cert.{Cert}
use Rattle.rr_books.specs.declared.entries.Cell.{Cell}
use Rattle.rr_books.specs.declared.entries.Entry.{Entry}
use Rattle.rr_books.specs.declared.entries.Entry.TheVariants as E
use Rattle.rr_books.specs.declared.entries.Marker.{Marker}
use Rattle.rr_books.specs.Book.{Book, balance, balance-push, balance_after, players, players-push, players_after, seats_up_to}
use Rattle.rr_books.specs.Same.{same_party, same_seat}
use Rattle.rr_books.specs.State.{has_party, has_place}
use Rattle.rr_books.specs.Totals.{pays_among}
use Rattle.rr_desk.specs.Effects.{Effect, adds, in_turn}
use Rattle.rr_desk.specs.Incomes.{dollars}
use Rattle.rr_auction.specs.Dealt.{moves_within}
use Rattle.rr_laws.specs.Soundness.Sound.{IsSolvent}

-- what each seat will have to pay
abbrev pub Debts : Type 0
Debts = Seat → ℕ

abbrev pub no_debt : Debts
no_debt t = 0

abbrev pub debt_of : Seat → ℕ → Debts
debt_of s m t = cond (same_seat t s) m 0

-- a table of n players at which each seat can pay its debts, and no corporation has less than nothing
pub record CanPay (n : ℕ) (o : Debts) (book : Book) : Type 0 where
  pub seated : players book ≡ n
  pub seats : (t : Seat) → pos (o t) ≤ℤ balance book (P.Seat t)
  pub corporations : (c : Corp) → pos 0 ≤ℤ balance book (P.Corp c)

-- further entries pay and move among those of the table, and lead to a book in which it can pay
pub record GoesOn (n : ℕ) (o : Debts) (book more : Book) : Type 0 where
  pub among : list_all (pays_among n) more ≡ true
  pub within : list_all (moves_within n) more ≡ true
  pub later : CanPay n o (book ++ more)

pub both : (b d : Bool) → b ≡ true → d ≡ true → (b && d) ≡ true
both true d h g = g
both false d h g = h

pub goes_nowhere : (n : ℕ) (o : Debts) (book : Book) → CanPay n o book → GoesOn n o book []
goes_nowhere n o book h =
    let So : Book → Type 0 = λ b. CanPay n o b in
    record { among = refl; within = refl; later = subst So (sym (append-nil book)) h }

pub goes_further : (n : ℕ) (o p : Debts) (book xs ys : Book) → GoesOn n o book xs → GoesOn n p (book ++ xs) ys → GoesOn n p book (xs ++ ys)
goes_further n o p book xs ys first others =
    let So : Book → Type 0 = λ b. CanPay n p b in
    record {
      among = list_all-append (pays_among n) xs ys ∙ both _ _ first.among others.among;
      within = list_all-append (moves_within n) xs ys ∙ both _ _ first.within others.within;
      later = subst So (append_assoc book xs ys) others.later;
    }

-- from one set of debts to another, whatever the book
abbrev pub Settles : ℕ → Debts → Debts → Effect → Type 0
Settles n o p f = (book : Book) → CanPay n o book → GoesOn n p book (f book)

-- whatever the debts, they can still be paid
abbrev pub Keeps : ℕ → Effect → Type 0
Keeps n f = (o : Debts) → Settles n o o f

pub settles_then : (n : ℕ) (o p q : Debts) (f : Effect) (fs : List Effect) → Settles n o p f → Settles n p q (in_turn fs) → Settles n o q (in_turn (f ∷ fs))
settles_then n o p q f fs first others book h =
    let one = first book h in
    goes_further n p q book (f book) (in_turn fs (book ++ f book)) one (others (book ++ f book) one.later)

pub keeps_none : (n : ℕ) → Keeps n (in_turn [])
keeps_none n o book h = goes_nowhere n o book h

pub settles_one : (n : ℕ) (o p : Debts) (f : Effect) → Settles n o p f → Settles n o p (in_turn (f ∷ []))
settles_one n o p f first = settles_then n o p p f [] first (keeps_none n p)

pub keeps_then : (n : ℕ) (f : Effect) (fs : List Effect) → Keeps n f → Keeps n (in_turn fs) → Keeps n (in_turn (f ∷ fs))
keeps_then n f fs h k o = settles_then n o o o f fs (h o) (k o)

pub keeps_one : (n : ℕ) (f : Effect) → Keeps n f → Keeps n (in_turn (f ∷ []))
keeps_one n f h = keeps_then n f [] h (keeps_none n)

pub keeps_two : (n : ℕ) (f g : Effect) → Keeps n f → Keeps n g → Keeps n (in_turn (f ∷ g ∷ []))
keeps_two n f g h k = keeps_then n f (g ∷ []) h (keeps_one n g k)

pub keeps_three : (n : ℕ) (f g i : Effect) → Keeps n f → Keeps n g → Keeps n i → Keeps n (in_turn (f ∷ g ∷ i ∷ []))
keeps_three n f g i h k l = keeps_then n f (g ∷ i ∷ []) h (keeps_two n g i k l)

-- one entry
goes_by : (n : ℕ) (o p : Debts) (book : Book) (e : Entry) → CanPay n o book → players_after n e ≡ n → pays_among n e ≡ true → moves_within n e ≡ true
    → ((t : Seat) → pos (p t) ≤ℤ balance_after (P.Seat t) (balance book (P.Seat t)) e) → ((c : Corp) → pos 0 ≤ℤ balance_after (P.Corp c) (balance book (P.Corp c)) e)
    → GoesOn n p book (e ∷ [])
goes_by n o p book e h same among within seats corporations =
    let Covers : Seat → ℤ → Type 0 = λ t x. pos (p t) ≤ℤ x in
    let Has : ℤ → Type 0 = λ x. pos 0 ≤ℤ x in
    record {
      among = both _ _ among refl;
      within = both _ _ within refl;
      later = record {
        seated = players-push book e ∙ ap (λ (m : ℕ). players_after m e) h.seated ∙ same;
        seats = λ t. subst (Covers t) (sym (balance-push book e (P.Seat t))) (seats t);
        corporations = λ c. subst Has (sym (balance-push book e (P.Corp c))) (corporations c);
      };
    }

still : (m : ℕ) (x : ℤ) → pos m ≤ℤ x → pos m ≤ℤ ((x +ℤ pos 0) -ℤ pos 0)
still m x h = omega (arith, ints)

-- a step of the game, a mark, a certificate that moves
pub keeps_step : (n : ℕ) (marker : Marker) → Keeps n (adds (E.Step marker))
keeps_step n marker o book h = goes_by n o o book (E.Step marker) h refl refl refl (λ t. still (o t) _ (h.seats t)) (λ c. still 0 _ (h.corporations c))

pub keeps_mark : (n : ℕ) (c : Corp) (cell : Cell) → Keeps n (adds (E.Mark c cell))
keeps_mark n c cell o book h = goes_by n o o book (E.Mark c cell) h refl refl refl (λ t. still (o t) _ (h.seats t)) (λ d. still 0 _ (h.corporations d))

pub keeps_move : (n : ℕ) (cert : Cert) (to : Place) → has_place n to ≡ true → Keeps n (adds (E.Move cert to))
keeps_move n cert to there o book h = goes_by n o o book (E.Move cert to) h refl refl there (λ t. still (o t) _ (h.seats t)) (λ d. still 0 _ (h.corporations d))

more_seats : (k n : ℕ) → k < n → max n (k + 1) ≡ n
more_seats k n h = omega arith

pub same_players : (n : ℕ) (p : Party) → has_party n p ≡ true → max n (seats_up_to p) ≡ n
same_players n P.Bank h = omega arith
same_players n (P.Corp c) h = omega arith
same_players n (P.Seat s) h = let lt : s.0 < n = grind (arith, nat_tests) in more_seats s.0 n lt

got : (b : Bool) (m k : ℕ) (x : ℤ) → pos m ≤ℤ x → pos m ≤ℤ ((x +ℤ cond b (pos k) (pos 0)) -ℤ pos 0)
got true m k x h = omega (arith, ints)
got false m k x h = omega (arith, ints)

-- the bank pays
pub keeps_paid : (n : ℕ) (p : Party) (k : ℕ) → has_party n p ≡ true → Keeps n (adds (E.Pay P.Bank p (dollars k)))
keeps_paid n p k there o book h =
    goes_by n o o book (E.Pay P.Bank p (dollars k)) h (same_players n p there) there refl
    (λ t. got (same_party (P.Seat t) p) (o t) k _ (h.seats t)) (λ c. got (same_party (P.Corp c) p) 0 k _ (h.corporations c))

spent : (b : Bool) (m : ℕ) (x : ℤ) → pos (cond b m 0) ≤ℤ x → pos 0 ≤ℤ ((x +ℤ pos 0) -ℤ cond b (pos m) (pos 0))
spent true m x h = omega (arith, ints)
spent false m x h = omega (arith, ints)

pub none_seated : (n : ℕ) → max n 0 ≡ n
none_seated n = omega arith

-- a seat pays its debt to the bank
pub settles_debt : (n : ℕ) (s : Seat) (m : ℕ) → s.0 < n → Settles n (debt_of s m) no_debt (adds (E.Pay (P.Seat s) P.Bank (dollars m)))
settles_debt n s m at book h =
    goes_by n (debt_of s m) no_debt book (E.Pay (P.Seat s) P.Bank (dollars m)) h (none_seated n) (both _ _ (lt-ltb s.0 n at) refl) refl
    (λ t. spent (same_seat t s) m _ (h.seats t)) (λ c. still 0 _ (h.corporations c))

-- who has the money for a debt can pay it
pub can_pay_debt : (n : ℕ) (s : Seat) (m : ℕ) (book : Book) → IsSolvent n book → pos m ≤ℤ balance book (P.Seat s) → CanPay n (debt_of s m) book
can_pay_debt n s m book h has = record { seated = h.seated; seats = λ t. by_same t (same_seat t s) refl; corporations = λ c. h.corporations c }
  where
    by_same : (t : Seat) (b : Bool) → same_seat t s ≡ b → pos (cond b m 0) ≤ℤ balance book (P.Seat t)
    by_same t false e = h.seats t
    by_same t true e =
        let Has : ℕ → Type 0 = λ k. pos m ≤ℤ balance book (P.Seat (record { 0 = k })) in
        subst Has (sym (eqb-true t.0 s.0 e)) has

pub solvent_without_debt : (n : ℕ) (book : Book) → CanPay n no_debt book → IsSolvent n book
solvent_without_debt n book h = record { seated = h.seated; seats = λ s. h.seats s; corporations = λ c. h.corporations c }

pub without_debt : (n : ℕ) (book : Book) → IsSolvent n book → CanPay n no_debt book
without_debt n book h = record { seated = h.seated; seats = λ s. h.seats s; corporations = λ c. h.corporations c }
