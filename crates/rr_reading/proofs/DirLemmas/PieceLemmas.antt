-- Lists that are spelled piece by piece, where the bytes of a piece tell where it ends.
use Rattle.std.proofs.Common.{◌≡◌, ℕ, ◌<◌, ◌≤◌, List, [], ◌∷◌, ◌++◌, length, refl, sym, ap, ◌∙◌, arith, length-append, append_assoc, true, false, Option, None, Some, MatchOption}
use Rattle.std.specs.List.{flat_map, All}
use Rattle.std.specs.Option.{is_some}
use Rattle.std.proofs.lemmas.List.Elements.{All-head, All-tail}

-- two fronts of the same length are cut at the same place
pub cut_same : {A : Type 0} (a b r s : List A) → length a ≡ length b → a ++ r ≡ b ++ s → (a ≡ b) × (r ≡ s)
cut_same [] [] r s len same = (refl, same)
cut_same [] (y ∷ b) r s len same = absurd (omega (arith, len))
cut_same (x ∷ a) [] r s len same = absurd (omega (arith, len))
cut_same (x ∷ a) (y ∷ b) r s len same =
    let first : x ≡ y = cc in
    let rest : a ++ r ≡ b ++ s = cc in
    let parts = cut_same a b r s (omega (arith, len)) rest in
    (λ i. first i ∷ parts.0 i, parts.1)

-- of all pieces the front was read, and this is left: the next of them and others
pub record IsNext {X : Type 0} (f : X → List ℕ) (Is : X → Type 0) (front all : List X) (rest end : List ℕ) : Type 0 where
  pub next : X
  pub others : List X
  pub is : Is next
  pub whole : all ≡ front ++ next ∷ others
  pub begins : rest ≡ f next ++ (flat_map f others ++ end)

module _ {X : Type 0} (f : X → List ℕ) (Is : X → Type 0) (cut : (x y : X) (r s : List ℕ) → Is x → Is y → f x ++ r ≡ f y ++ s → (x ≡ y) × (r ≡ s)) where
  -- where more are spelled than were read
  pub next_of : (xs ys : List X) (r s : List ℕ) → All Is xs → All Is ys → length xs < length ys → flat_map f xs ++ r ≡ flat_map f ys ++ s → IsNext f Is xs ys r s
  next_of xs [] r s a b more same = absurd (omega (arith, more))
  next_of [] (y ∷ ys) r s a b more same = record { next = y; others = ys; is = All-head Is y ys b; whole = refl; begins = same ∙ append_assoc (f y) (flat_map f ys) s }
  next_of (x ∷ xs) (y ∷ ys) r s a b more same =
      let there : f x ++ (flat_map f xs ++ r) ≡ f y ++ (flat_map f ys ++ s) = sym (append_assoc (f x) (flat_map f xs) r) ∙ same ∙ append_assoc (f y) (flat_map f ys) s in
      let parts = cut x y (flat_map f xs ++ r) (flat_map f ys ++ s) (All-head Is x xs a) (All-head Is y ys b) there in
      let left = next_of xs ys r s (All-tail Is x xs a) (All-tail Is y ys b) (omega (arith, more)) parts.1 in
      record { next = left.next; others = left.others; is = left.is; whole = λ i. sym parts.0 i ∷ left.whole i; begins = left.begins }

  -- lists of one length are cut at the same place
  pub cut_list : (xs ys : List X) (r s : List ℕ) → All Is xs → All Is ys → length xs ≡ length ys → flat_map f xs ++ r ≡ flat_map f ys ++ s → (xs ≡ ys) × (r ≡ s)
  cut_list [] [] r s a b len same = (refl, same)
  cut_list [] (y ∷ ys) r s a b len same = absurd (omega (arith, len))
  cut_list (x ∷ xs) [] r s a b len same = absurd (omega (arith, len))
  cut_list (x ∷ xs) (y ∷ ys) r s a b len same =
      let there : f x ++ (flat_map f xs ++ r) ≡ f y ++ (flat_map f ys ++ s) = sym (append_assoc (f x) (flat_map f xs) r) ∙ same ∙ append_assoc (f y) (flat_map f ys) s in
      let parts = cut x y (flat_map f xs ++ r) (flat_map f ys ++ s) (All-head Is x xs a) (All-head Is y ys b) there in
      let rest = cut_list xs ys r s (All-tail Is x xs a) (All-tail Is y ys b) (omega (arith, len)) parts.1 in
      (λ i. parts.0 i ∷ rest.0 i, rest.1)

  -- equal bytes are those of one list
  pub one_list : ((x : X) → 1 ≤ length (f x)) → (xs ys : List X) → All Is xs → All Is ys → flat_map f xs ≡ flat_map f ys → xs ≡ ys
  one_list some [] [] a b same = refl
  one_list some [] (y ∷ ys) a b same = absurd (omega (arith, some y, ap length same, length-append (f y) (flat_map f ys)))
  one_list some (x ∷ xs) [] a b same = absurd (omega (arith, some x, ap length same, length-append (f x) (flat_map f xs)))
  one_list some (x ∷ xs) (y ∷ ys) a b same =
      let parts = cut x y (flat_map f xs) (flat_map f ys) (All-head Is x xs a) (All-head Is y ys b) same in
      let rest : xs ≡ ys = one_list some xs ys (All-tail Is x xs a) (All-tail Is y ys b) parts.1 in
      λ i. parts.0 i ∷ rest i

-- what a test of an option tells
pub at_none : {X : Type 0} (o : Option X) (P : Type 0) (Q : X → Type 0) → is_some o ≡ false → MatchOption o P Q → P
at_none None P Q none m = m
at_none (Some x) P Q none m = let no : true ≡ false = none in absurd (cc)

pub at_some : {X : Type 0} (o : Option X) (P : Type 0) (Q : X → Type 0) → is_some o ≡ true → MatchOption o P Q → (x : X) × Q x
at_some None P Q some m = let no : false ≡ true = some in absurd (cc)
at_some (Some x) P Q some m = (x, m)
