-- A table whose corporations can pay what they owe, as effects follow on its book.
use Rattle.std.specs.Prelude.{◌≡◌, ℕ, ℤ, pos, ◌≤ℤ◌, Bool, true, false, List, [], ◌∷◌, ◌++◌, map, refl, if◌then◌else◌}
use Rattle.std.specs.List.{list_all}
use Rattle.std.proofs.Common.{sym, ◌∙◌, ap, subst, append_assoc, append-nil}
use Rattle.std.proofs.lemmas.List.Folds.{list_all-append}
use Rattle.rr_roster.specs.declared.company.Corp.{Corp}
use Rattle.rr_books.specs.declared.parties.Seat.{Seat}
use Rattle.rr_books.specs.declared.parties.Party.TheVariants as P
use Rattle.rr_books.specs.declared.entries.Entry.{Entry}
use Rattle.rr_books.specs.Book.{Book, balance, balance-push, balance_after, players, players-push, players_after}
use Rattle.rr_books.specs.Totals.{pays_among}
use Rattle.rr_desk.specs.Effects.{Effect, in_turn}
use Rattle.rr_auction.specs.Dealt.{moves_within}
use Rattle.rr_laws.specs.Soundness.Sound.{IsSolvent}
use Rattle.rr_laws.proofs.SoundnessLemmas.Going.{both}
use Rattle.rr_laws.proofs.SoundnessLemmas.Untouched.{IsUntouched, untouched_both, untouched_same}

-- what each corporation will have to pay
abbrev pub Dues : Type 0
Dues = Corp → ℕ

abbrev pub no_dues : Dues
no_dues c = 0

-- a table of n players at which each corporation can pay its dues, and no seat has less than nothing
pub record CanSettle (n : ℕ) (o : Dues) (book : Book) : Type 0 where
  pub seated : players book ≡ n
  pub seats : (s : Seat) → pos 0 ≤ℤ balance book (P.Seat s)
  pub corporations : (c : Corp) → pos (o c) ≤ℤ balance book (P.Corp c)

-- further entries pay and move among those of the table, touch no share, and lead to a book in which dues can be paid
pub record TurnsOn (n : ℕ) (o : Dues) (book more : Book) : Type 0 where
  pub among : list_all (pays_among n) more ≡ true
  pub within : list_all (moves_within n) more ≡ true
  pub later : CanSettle n o (book ++ more)
  pub untouched : (c : Corp) → IsUntouched c book (book ++ more)

pub turns_nowhere : (n : ℕ) (o : Dues) (book : Book) → CanSettle n o book → TurnsOn n o book []
turns_nowhere n o book h =
    let So : Book → Type 0 = λ b. CanSettle n o b in
    record {
      among = refl;
      within = refl;
      later = subst So (sym (append-nil book)) h;
      untouched = λ c. subst (IsUntouched c book) (sym (append-nil book)) (untouched_same c book);
    }

pub turns_further : (n : ℕ) (o p : Dues) (book xs ys : Book) → TurnsOn n o book xs → TurnsOn n p (book ++ xs) ys → TurnsOn n p book (xs ++ ys)
turns_further n o p book xs ys first others =
    let So : Book → Type 0 = λ b. CanSettle n p b in
    record {
      among = list_all-append (pays_among n) xs ys ∙ both _ _ first.among others.among;
      within = list_all-append (moves_within n) xs ys ∙ both _ _ first.within others.within;
      later = subst So (append_assoc book xs ys) others.later;
      untouched = λ c. subst (IsUntouched c book) (append_assoc book xs ys) (untouched_both c book (book ++ xs) ((book ++ xs) ++ ys) (first.untouched c) (others.untouched c));
    }

-- from some dues to others, whatever the book
abbrev pub Settles : ℕ → Dues → Dues → Effect → Type 0
Settles n o p f = (book : Book) → CanSettle n o book → TurnsOn n p book (f book)

-- whatever the dues, they can still be paid
abbrev pub Stays : ℕ → Effect → Type 0
Stays n f = (o : Dues) → Settles n o o f

pub settles_then : (n : ℕ) (o p q : Dues) (f : Effect) (fs : List Effect) → Settles n o p f → Settles n p q (in_turn fs) → Settles n o q (in_turn (f ∷ fs))
settles_then n o p q f fs first others book h =
    let one = first book h in
    turns_further n p q book (f book) (in_turn fs (book ++ f book)) one (others (book ++ f book) one.later)

pub stays_none : (n : ℕ) → Stays n (in_turn [])
stays_none n o book h = turns_nowhere n o book h

pub settles_one : (n : ℕ) (o p : Dues) (f : Effect) → Settles n o p f → Settles n o p (in_turn (f ∷ []))
settles_one n o p f first = settles_then n o p p f [] first (stays_none n p)

pub stays_then : (n : ℕ) (f : Effect) (fs : List Effect) → Stays n f → Stays n (in_turn fs) → Stays n (in_turn (f ∷ fs))
stays_then n f fs h k o = settles_then n o o o f fs (h o) (k o)

pub stays_one : (n : ℕ) (f : Effect) → Stays n f → Stays n (in_turn (f ∷ []))
stays_one n f h = stays_then n f [] h (stays_none n)

pub stays_two : (n : ℕ) (f g : Effect) → Stays n f → Stays n g → Stays n (in_turn (f ∷ g ∷ []))
stays_two n f g h k = stays_then n f (g ∷ []) h (stays_one n g k)

pub stays_three : (n : ℕ) (f g i : Effect) → Stays n f → Stays n g → Stays n i → Stays n (in_turn (f ∷ g ∷ i ∷ []))
stays_three n f g i h k l = stays_then n f (g ∷ i ∷ []) h (stays_two n g i k l)

-- one for each of a list
pub stays_each : {A : Type 0} (n : ℕ) (f : A → Effect) (xs : List A) → ((x : A) → Stays n (f x)) → Stays n (in_turn (map f xs))
stays_each n f [] h = stays_none n
stays_each n f (x ∷ xs) h = stays_then n (f x) (map f xs) (h x) (stays_each n f xs h)

-- either of two
pub stays_either : (n : ℕ) (b : Bool) (f g : Effect) → Stays n f → Stays n g → Stays n (if b then f else g)
stays_either n true f g h k = h
stays_either n false f g h k = k

-- one entry
pub turns_by : (n : ℕ) (o p : Dues) (book : Book) (e : Entry) → CanSettle n o book → players_after n e ≡ n → pays_among n e ≡ true → moves_within n e ≡ true
    → ((s : Seat) → pos 0 ≤ℤ balance_after (P.Seat s) (balance book (P.Seat s)) e) → ((c : Corp) → pos (p c) ≤ℤ balance_after (P.Corp c) (balance book (P.Corp c)) e)
    → ((c : Corp) → IsUntouched c book (book ++ e ∷ [])) → TurnsOn n p book (e ∷ [])
turns_by n o p book e h same among within seats corporations untouched =
    let Covers : Corp → ℤ → Type 0 = λ c x. pos (p c) ≤ℤ x in
    let Has : ℤ → Type 0 = λ x. pos 0 ≤ℤ x in
    record {
      among = both _ _ among refl;
      within = both _ _ within refl;
      later = record {
        seated = players-push book e ∙ ap (λ (m : ℕ). players_after m e) h.seated ∙ same;
        seats = λ s. subst Has (sym (balance-push book e (P.Seat s))) (seats s);
        corporations = λ c. subst (Covers c) (sym (balance-push book e (P.Corp c))) (corporations c);
      };
      untouched = untouched;
    }

pub settled : (n : ℕ) (book : Book) → IsSolvent n book → CanSettle n no_dues book
settled n book h = record { seated = h.seated; seats = λ s. h.seats s; corporations = λ c. h.corporations c }

pub solvent : (n : ℕ) (book : Book) → CanSettle n no_dues book → IsSolvent n book
solvent n book h = record { seated = h.seated; seats = λ s. h.seats s; corporations = λ c. h.corporations c }
