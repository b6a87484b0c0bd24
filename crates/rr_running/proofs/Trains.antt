-- Lists that a corporation's trains make.
use Rattle.std.specs.Prelude.{◌≡◌, ℕ, ◌+◌, ◌<◌, List, [], ◌∷◌, ◌++◌, length, take, replicate, slice_index_or}
use Rattle.std.specs.List.{flat_map}
use Rattle.std.proofs.Common.{sym, ◌∙◌, ap, append_assoc}
use Rattle.std.proofs.lemmas.List.{flat_map_more, replicate_more, take_more}

-- one item more
pub flat_map_next : {X A : Type 0} (f : X → List A) (xs : List X) (i : ℕ) (d : X) → i < length xs → flat_map f (take (i + 1) xs) ≡ flat_map f (take i xs) ++ f (slice_index_or xs i d)
flat_map_next f xs i d inside = ap (λ ys. flat_map f ys) (take_more xs i d inside) ∙ sym (flat_map_more f [] (take i xs) (slice_index_or xs i d))

-- once more the same
pub repeated : {X : Type 0} (xs : List X) (n : ℕ) (x : X) → (xs ++ replicate n x) ++ x ∷ [] ≡ xs ++ replicate (n + 1) x
repeated xs n x = append_assoc xs (replicate n x) (x ∷ []) ∙ ap (λ ys. xs ++ ys) (replicate_more n x)
