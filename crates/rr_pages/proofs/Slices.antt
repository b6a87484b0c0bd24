-- Slices written in part.
use Rattle.std.proofs.Common.{◌≡◌, ℕ, ◌+◌, ◌<◌, ◌≤◌, List, [], ◌∷◌, ◌++◌, length, take, drop, ap, ◌∙◌, arith, length-drop}
use Rattle.std.proofs.lemmas.List.{drop_all, append-nil}
use Rattle.std.proofs.Math.ListN.{set}
use borrow.Rule.Slice.PartMut.{put_mid}

-- a write of all that lies behind a place
put_mid-behind : (a k : ℕ) (xs ys : List ℕ) → length xs ≤ a + k → put_mid a k xs ys ≡ take a xs ++ ys
put_mid-behind a k xs ys all =
    let none : drop k (drop a xs) ≡ [] = drop_all k (drop a xs) (omega (arith, length-drop a xs)) in
    ap (λ (zs : List ℕ). take a xs ++ (ys ++ zs)) none ∙ ap (λ (zs : List ℕ). take a xs ++ zs) (append-nil ys)

-- a first item, and a list behind it
pub put_first : (k : ℕ) (xs ys : List ℕ) (y : ℕ) → 0 < length xs → length xs ≤ 1 + k → put_mid 1 k (set xs 0 y) ys ≡ y ∷ ys
put_first k [] ys y some all = absurd (omega arith)
put_first k (x ∷ xs) ys y some all = put_mid-behind 1 k (y ∷ xs) ys (omega arith)
