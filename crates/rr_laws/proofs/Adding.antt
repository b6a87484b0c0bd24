-- Effects each of whose entries meets a test, whatever the book is.
use Rattle.std.specs.Prelude.{◌≡◌, Bool, true, List, [], ◌∷◌, ◌++◌, ◌&&◌, map, refl}
use Rattle.std.proofs.Common.{◌∙◌, ap}
use Rattle.std.specs.List.{list_all}
use Rattle.std.proofs.lemmas.Bool.{and_parts}
use Rattle.std.proofs.lemmas.List.Folds.{list_all-append}
use Rattle.rr_books.specs.declared.entries.Entry.{Entry}
use Rattle.rr_books.specs.Book.{Book}
use Rattle.rr_desk.specs.Effects.{Effect, adds, in_turn}

abbrev pub Adds : (Entry → Bool) → Effect → Type 0
Adds test f = (book : Book) → list_all test (f book) ≡ true

module _ (test : Entry → Bool) where
  both_add : (xs ys : Book) → list_all test xs ≡ true → list_all test ys ≡ true → list_all test (xs ++ ys) ≡ true
  both_add xs ys h k = list_all-append test xs ys ∙ ap (λ (b : Bool). b && list_all test ys) h ∙ k

  pub none_adds : Adds test (in_turn [])
  none_adds book = refl

  pub then_adds : (f : Effect) (fs : List Effect) → Adds test f → Adds test (in_turn fs) → Adds test (in_turn (f ∷ fs))
  then_adds f fs h k book = both_add (f book) (in_turn fs (book ++ f book)) (h book) (k (book ++ f book))

  pub two_add : (f g : Effect) → Adds test f → Adds test g → Adds test (in_turn (f ∷ g ∷ []))
  two_add f g h k = then_adds f (g ∷ []) h (then_adds g [] k none_adds)

  pub three_add : (f g i : Effect) → Adds test f → Adds test g → Adds test i → Adds test (in_turn (f ∷ g ∷ i ∷ []))
  three_add f g i h k l = then_adds f (g ∷ i ∷ []) h (two_add g i k l)

  pub one_adds : (e : Entry) → test e ≡ true → Adds test (adds e)
  one_adds e h book = ap (λ (b : Bool). b && true) h

  -- one for each of a list
  pub each_adds : {X : Type 0} (f : X → Effect) (xs : List X) → ((x : X) → Adds test (f x)) → Adds test (in_turn (map f xs))
  each_adds f [] h = none_adds
  each_adds f (x ∷ xs) h = then_adds (f x) (map f xs) (h x) (each_adds f xs h)

-- what meets a test meets a weaker one
pub all_weaker : (test weaker : Entry → Bool) → ((e : Entry) → test e ≡ true → weaker e ≡ true) → (es : Book) → list_all test es ≡ true → list_all weaker es ≡ true
all_weaker test weaker h [] all = refl
all_weaker test weaker h (e ∷ es) all =
    let parts = and_parts (test e) (list_all test es) all in
    ap (λ (b : Bool). b && list_all weaker es) (h e parts.0) ∙ all_weaker test weaker h es parts.1
