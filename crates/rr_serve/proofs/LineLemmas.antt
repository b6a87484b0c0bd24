-- Lemmas on lists and on what is kept of a line.
use Rattle.std.proofs.Common.{◌≡◌, ℕ, zero, suc, ◌+◌, ◌-◌, ◌≤◌, List, [], ◌∷◌, ◌++◌, length, take, drop, refl, ap, sym, arith, min, ◌∙◌}
use Rattle.std.proofs.lemmas.List.{take_rest, take_min, append-nil}
use Rattle.std.proofs.Math.Seq.{take-add, take-append-add}
use Rattle.std.proofs.Math.Nat.{min_comm}
use Rattle.std.specs.List.{AllByRecursion}
use Rattle.rr_serve.specs.Lines.{taken}

-- the first w, and of the rest as many as c
pub take-part : (w c : ℕ) (xs : List ℕ) → take w xs ++ take c (take (length xs - w) (drop w xs)) ≡ take (w + c) xs
take-part w c xs = ap (λ ys. take w xs ++ take c ys) (take_rest xs w) ∙ sym (take-add w c xs)

-- the first w, and the next c
pub take-next : (w c : ℕ) (xs : List ℕ) → take w xs ++ take ((w + c) - w) (drop w xs) ≡ take (w + c) xs
take-next w c xs =
    let part : (w + c) - w ≡ c = omega arith in
    ap (λ n. take w xs ++ take n (drop w xs)) part ∙ sym (take-add w c xs)

-- a write that took nothing added nothing
pub take-none : (w c : ℕ) (xs : List ℕ) → c ≤ 0 → take w xs ++ take c (take (length xs - w) (drop w xs)) ≡ take w xs
take-none w c xs none =
    let zero_is : c ≡ 0 = omega arith in
    take-part w c xs ∙ ap (λ n. take n xs) (omega arith)

-- what is cut off anyway may be cut off before
pub take-append_take : (n : ℕ) (xs ys : List ℕ) → take n (take n xs ++ ys) ≡ take n (xs ++ ys)
take-append_take zero xs ys = refl
take-append_take (suc n) [] ys = refl
take-append_take (suc n) (x ∷ xs) ys = ap (λ zs. x ∷ zs) (take-append_take n xs ys)

pub AllByRecursion-push : {X : Type 0} (P : X → Type 0) (xs : List X) (x : X) → AllByRecursion P xs → P x → AllByRecursion P (xs ++ x ∷ [])
AllByRecursion-push P [] x all here = (here, tt)
AllByRecursion-push P (y ∷ ys) x all here = (all.0, AllByRecursion-push P ys x all.1 here)

pub AllByRecursion-append : {X : Type 0} (P : X → Type 0) (xs ys : List X) → AllByRecursion P xs → AllByRecursion P ys → AllByRecursion P (xs ++ ys)
AllByRecursion-append P [] ys first second = second
AllByRecursion-append P (x ∷ xs) ys first second = (first.0, AllByRecursion-append P xs ys first.1 second)

-- to take as many as there are at most takes them all
pub taken-min : (known : ℕ) (xs : List ℕ) → known ≡ min (length xs) 32001 → take known xs ≡ taken xs
unfolding taken
taken-min known xs is = ap (λ n. take n xs) (is ∙ min_comm (length xs) 32001) ∙ take_min 32001 xs

pub taken-nil : taken [] ≡ []
unfolding taken
taken-nil = refl

-- what fits of more bytes is kept
pub taken-room : (xs ys : List ℕ) → length xs ≤ 32001 → xs ++ take (min (length ys) (32001 - length xs)) ys ≡ taken (xs ++ ys)
unfolding taken
taken-room xs ys fits =
    let room : length xs + (32001 - length xs) ≡ 32001 = omega arith in
    ap (λ n. xs ++ take n ys) (min_comm (length ys) (32001 - length xs)) ∙ ap (λ zs. xs ++ zs) (take_min (32001 - length xs) ys)
    ∙ sym (take-append-add xs ys (32001 - length xs)) ∙ ap (λ n. take n (xs ++ ys)) room

-- what the buffer has taken says as much of the line as the line itself
pub taken-append_taken : (xs ys : List ℕ) → taken (taken xs ++ ys) ≡ taken (xs ++ ys)
unfolding taken
taken-append_taken xs ys = take-append_take 32001 xs ys

pub taken-taken : (xs : List ℕ) → taken (taken xs) ≡ taken xs
taken-taken xs =
    ap taken (sym (append-nil (taken xs))) ∙ taken-append_taken xs [] ∙ ap taken (append-nil xs)
