-- How many trains a place gets by an entry.
use Rattle.std.specs.Prelude.{◌≡◌, ℕ, zero, suc, ◌+◌, ◌<◌, ◌≤◌, ◌==◌, ◌&&◌, Bool, true, false, List, [], ◌∷◌, ◌++◌, Option, Some, sum_by, count_by, refl}
use Rattle.std.specs.List.{range_with_len}
use Rattle.std.proofs.Common.{◌∙◌, ap, cond, arith, inl, inr}
use Rattle.std.proofs.Math.Path.{fun_ext}
use Rattle.std.proofs.lemmas.List.Sums.{sum_by-cons}
use Rattle.std.proofs.lemmas.Bool.Decides.{eqb_tells}
use Rattle.rr_roster.specs.declared.company.Kind.{Kind}
use Rattle.rr_roster.specs.declared.company.Kind.TheVariants as K
use Rattle.rr_roster.specs.Company.{kind_index, kinds}
use Rattle.rr_books.specs.declared.parties.Place.{Place}
use Rattle.rr_books.specs.declared.certificates.Train.{Train}
use Rattle.rr_books.specs.declared.entries.Entry.{Entry}
use Rattle.rr_books.specs.declared.entries.Entry.TheVariants as E
use Rattle.rr_books.specs.Book.{Book, train_holder, train_holder-push, train_holder_after}
use Rattle.rr_books.specs.Same.{same_place, same_train}
use Rattle.rr_books.specs.Shares.{is_at}
use Rattle.rr_market.specs.Operations.Phases.{TrainHolders, train, train_numbers}
use Rattle.rr_trains.specs.Places.{trains_at, trains_held}

-- two sums over a list, one of which is nowhere above two others together
sums_within : {X : Type 0} (f g h : X → ℕ) (xs : List X) → ((x : X) → f x ≤ g x + h x) → sum_by f xs ≤ sum_by g xs + sum_by h xs
sums_within f g h [] each = omega arith
sums_within f g h (x ∷ xs) each =
    let one = each x in
    let rest = sums_within f g h xs each in
    omega (arith, one, rest, sum_by-cons f x xs, sum_by-cons g x xs, sum_by-cons h x xs)

-- a number among numbers in a row
is : ℕ → ℕ → ℕ
is m n = cond (n == m) 1 0

is_not : (m n : ℕ) → (n ≡ m → ⊥) → is m n ≡ 0
unfolding is
is_not m n other = ap (λ (b : Bool). cond b 1 0) (eqb-other n m other)
  where
    eqb-other : (n m : ℕ) → (n ≡ m → ⊥) → (n == m) ≡ false
    eqb-other n m other =
        elim (eqb_tells n m) [
          | inl same ↦ absurd (other same.1)
          | inr else ↦ else.0
        ]

is_at_most_one : (m n : ℕ) → is m n ≤ 1
unfolding is
is_at_most_one m n = of (n == m)
  where
    of : (b : Bool) → cond b 1 0 ≤ 1
    of true = omega arith
    of false = omega arith

-- it stands there once at most
none_below : (a k m : ℕ) → m < a → sum_by (is m) (range_with_len a k) ≡ 0
none_below a zero m low = refl
none_below a (suc k) m low =
    let other = is_not m a (λ same. omega (arith, same)) in
    let rest = none_below (a + 1) k m (omega arith) in
    sum_by-cons (is m) a (range_with_len (a + 1) k) ∙ (omega (arith, other, rest))

once_at_most : (a k m : ℕ) → sum_by (is m) (range_with_len a k) ≤ 1
once_at_most a zero m = omega arith
once_at_most a (suc k) m =
    let cons = sum_by-cons (is m) a (range_with_len (a + 1) k) in
    let few = once_at_most (a + 1) k m in
    let one = is_at_most_one m a in
    elim (eqb_tells a m) [
      | inl same ↦
          let none = none_below (a + 1) k m (omega (arith, same.1)) in
          omega (arith, cons, none, one)
      | inr else ↦
          let none = is_not m a else.1 in
          omega (arith, cons, none, few)
    ]

numbered_once : (m : ℕ) → count_by (λ n. n == m) train_numbers ≤ 1
unfolding is
numbered_once m = once_at_most 1 20 m

-- a train is one of those of its kind
one_train : (kind : Kind) (m : ℕ) → sum_by (λ k. count_by (λ n. (kind_index k == kind_index kind) && (n == m)) train_numbers) kinds ≤ 1
one_train K.Two m = omega (arith, numbered_once m)
one_train K.Three m = omega (arith, numbered_once m)
one_train K.Four m = omega (arith, numbered_once m)
one_train K.Five m = omega (arith, numbered_once m)
one_train K.Six m = omega (arith, numbered_once m)
one_train K.Diesel m = omega (arith, numbered_once m)

-- whether an entry takes a train to a place
abbrev pub brings : Place → Entry → ℕ
brings place (E.Train t to) = cond (same_place to place) 1 0
brings place _ = 0

one_of_two : (moved here : Bool) (old : Option Place) (to place : Place) → same_place to place ≡ here → cond (is_at (cond moved (Some to) old) place) 1 0 ≤ cond (is_at old place) 1 0 + cond (here && moved) 1 0
one_of_two true true old to place e = rw e (omega arith)
one_of_two true false old to place e = rw e (omega arith)
one_of_two false true old to place e = omega arith
one_of_two false false old to place e = omega arith

-- what a train that moves adds at a place
moved_of : Train → Bool → Kind → ℕ
moved_of t here kind = count_by (λ n. here && same_train (train kind n) t) train_numbers

moved_in_all : (t : Train) (here : Bool) → sum_by (moved_of t here) kinds ≤ cond here 1 0
unfolding moved_of
moved_in_all t true = one_train t.kind t.number
moved_in_all t false = omega arith

more_of_kind : (h : TrainHolders) (t : Train) (to place : Place) (kind : Kind)
    → trains_at (λ x. cond (same_train x t) (Some to) (h x)) place kind ≤ trains_at h place kind + moved_of t (same_place to place) kind
unfolding trains_at moved_of
more_of_kind h t to place kind =
    sums_within _ _ _ train_numbers (λ n. one_of_two (same_train (train kind n) t) (same_place to place) (h (train kind n)) to place refl)

more_in_all : (h : TrainHolders) (t : Train) (to place : Place) → trains_held (λ x. cond (same_train x t) (Some to) (h x)) place ≤ trains_held h place + cond (same_place to place) 1 0
unfolding trains_held
more_in_all h t to place =
    let all = sums_within (trains_at (λ x. cond (same_train x t) (Some to) (h x)) place) (trains_at h place) (moved_of t (same_place to place)) kinds (more_of_kind h t to place) in
    let one = moved_in_all t (same_place to place) in
    omega (arith, all, one)

-- the trains at a place after one entry more
after_entry : (h : TrainHolders) (e : Entry) (place : Place) → trains_held (λ x. train_holder_after x (h x) e) place ≤ trains_held h place + brings place e
after_entry h (E.Train t to) place = more_in_all h t to place
after_entry h _ place = omega arith

pub held_after : (book : Book) (e : Entry) (place : Place) → trains_held (train_holder (book ++ e ∷ [])) place ≤ trains_held (train_holder book) place + brings place e
held_after book e place =
    let is : train_holder (book ++ e ∷ []) ≡ (λ x. train_holder_after x (train_holder book x) e) = fun_ext (λ (t : Train). train_holder-push book e t) in
    let more = after_entry (train_holder book) e place in
    omega (arith, ap (λ (h : TrainHolders). trains_held h place) is, more)
