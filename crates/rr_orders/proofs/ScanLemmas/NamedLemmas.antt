-- A word that names one of some values.
use Rattle.std.proofs.Common.{◌≡◌, ℕ, Bool, true, List, [], ◌∷◌, Option, Some, None, IfSome, refl, sym, inl, inr}
use Rattle.std.specs.List.{find}
use Rattle.std.specs.Str.{bytes_eq}
use Rattle.std.proofs.lemmas.Bool.{cases_Bool}
use Rattle.std.proofs.lemmas.Slice.Eq.{bytes_eq-Decides}

-- what `find` gives passes the test
find-passes : {X : Type 0} (p : X → Bool) (xs : List X) (found : X) → find p xs ≡ Some found → p found ≡ true
find-passes p [] found h = cc
find-passes p (x ∷ xs) found h =
    elim (cases_Bool (p x)) [
      | inl passes ↦ (let same : Some x ≡ Some found = rw passes at h in cc)
      | inr fails ↦ find-passes p xs found (rw fails at h)
    ]

-- a reader that gives just the value that the word names gives what `find` gives
pub find-named : {X : Type 0} (name : X → List ℕ) (all : List X) → ((x : X) → find (λ y. bytes_eq (name x) (name y)) all ≡ Some x) → (word : List ℕ) (read : Option X) → IfSome read (λ x. word ≡ name x) → ((x : X) → word ≡ name x → read ≡ Some x) → read ≡ find (λ y. bytes_eq word (name y)) all
find-named {X = X} name all named word None found only = absent (find (λ y. bytes_eq word (name y)) all) refl
  where
    absent : (given : Option X) → find (λ y. bytes_eq word (name y)) all ≡ given → None ≡ given
    absent None h = refl
    absent (Some x) h = only x ((bytes_eq-Decides word (name x)).0 (find-passes _ all x h))
find-named name all named word (Some x) found only = sym (rw found (named x))
