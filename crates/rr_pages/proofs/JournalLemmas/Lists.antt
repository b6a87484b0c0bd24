-- Slices written in half.
use Rattle.std.proofs.Common.{◌≡◌, ℕ, ◌+◌, ◌-◌, ◌<◌, ◌≤◌, List, [], ◌∷◌, ◌++◌, length, take, drop, ap, ◌∙◌, arith, length-drop}
use Rattle.std.proofs.lemmas.List.{drop_all, take_all, append-nil}
use Rattle.std.proofs.Math.ListN.{set}
use borrow.Rule.Slice.PartMut.{put_mid}

-- a write of all that lies behind a place
pub put_mid-behind : (a k : ℕ) (xs ys : List ℕ) → length xs ≤ a + k → put_mid a k xs ys ≡ take a xs ++ ys
put_mid-behind a k xs ys all =
    let none : drop k (drop a xs) ≡ [] = drop_all k (drop a xs) (omega (arith, length-drop a xs)) in
    ap (λ (zs : List ℕ). take a xs ++ (ys ++ zs)) none ∙ ap (λ (zs : List ℕ). take a xs ++ zs) (append-nil ys)

-- a first item, and a list behind it
pub put_first : (k : ℕ) (xs ys : List ℕ) (y : ℕ) → 0 < length xs → length xs ≤ 1 + k → put_mid 1 k (set xs 0 y) ys ≡ y ∷ ys
put_first k [] ys y some all = absurd (omega arith)
put_first k (x ∷ xs) ys y some all = put_mid-behind 1 k (y ∷ xs) ys (omega arith)

-- the half of a list behind its first item, and that item alone
pub behind_first : (xs ys : List ℕ) (y : ℕ) → xs ≡ y ∷ ys → take (length xs - 1) (drop 1 xs) ≡ ys
behind_first xs ys y is =
    let count : length xs - 1 ≡ length ys = omega (arith, ap length is) in
    ap (λ (n : ℕ). take n (drop 1 xs)) count ∙ (ap (λ (l : List ℕ). take (length ys) (drop 1 l)) is ∙ take_all (length ys) ys (omega arith))

pub first_alone : (xs ys : List ℕ) (y : ℕ) → xs ≡ y ∷ ys → take 1 xs ≡ y ∷ []
first_alone xs ys y is = ap (λ (l : List ℕ). take 1 l) is
