-- Bytes begin with one value of a type at most.
use Rattle.std.specs.Prelude.{Bool, true, false, ℤ, FitsSigned, Option, None, Some, IfSome, MatchOption, SomeIff, ◌≢◌}
use Rattle.std.specs.Int.{w64, cast_signed, cast_unsigned}
use Rattle.std.specs.List.{AllByRecursion, flat_map}
use Rattle.std.proofs.Common.{◌≡◌, ℕ, ◌^◌, ◌<◌, ◌≤◌, List, [], ◌∷◌, ◌++◌, refl, sym, ap, ◌∙◌, subst, append_assoc, arith, length, get_or}
use Rattle.std.proofs.lemmas.List.{append_cancel_left}
use Rattle.std.proofs.lemmas.Int.{to_z-of_z}
use Rattle.std.proofs.Math.Facts.{Fits-of_z}
use Rattle.std.proofs.lemmas.List.Concat.{flat_map-cons}
use Rattle.byteorder.specs.Endian.{big_number}
use Rattle.byteorder.specs.Numbers.{big_number-reads_back}
use Rattle.rr_words.specs.Spelling.Number.{spelled_bool, spelled_number, spelled_option, spelled_signed}

pub byte_one_way : (x y : ℕ) (r s : List ℕ) → x < 2 ^ 8 → y < 2 ^ 8 → x ∷ [] ++ r ≡ y ∷ [] ++ s → (x ≡ y) × (r ≡ s)
byte_one_way x y r s small_x small_y same = (cc, cc)

pub bool_one_way : (x y : Bool) (r s : List ℕ) → spelled_bool x ++ r ≡ spelled_bool y ++ s → (x ≡ y) × (r ≡ s)
bool_one_way true true r s same = (refl, cc)
bool_one_way false false r s same = (refl, cc)
bool_one_way true false r s same = absurd (omega (arith, ap (λ (z : List ℕ). get_or z 0 0) same))
bool_one_way false true r s same = absurd (omega (arith, ap (λ (z : List ℕ). get_or z 0 0) same))

-- the value of a number's bytes
back : (n x : ℕ) (rest : List ℕ) → x < 256 ^ n → big_number n (spelled_number n x ++ rest) ≡ x
unfolding spelled_number
back n x rest small = big_number-reads_back n x rest small

pub number_one_way : (n x y : ℕ) (r s : List ℕ) → x < 256 ^ n → y < 256 ^ n → spelled_number n x ++ r ≡ spelled_number n y ++ s → (x ≡ y) × (r ≡ s)
number_one_way n x y r s small_x small_y same =
    let number : x ≡ y = sym (back n x r small_x) ∙ ap (big_number n) same ∙ back n y s small_y in
    (number, append_cancel_left (spelled_number n x) r s (same ∙ ap (λ (z : ℕ). spelled_number n z ++ s) (sym number)))

pub pair_one_way : {A B : Type 0} (f : A → List ℕ) (g : B → List ℕ) (F : A → Type 0) (G : B → Type 0)
    → ((x y : A) (r s : List ℕ) → F x → F y → f x ++ r ≡ f y ++ s → (x ≡ y) × (r ≡ s))
    → ((x y : B) (r s : List ℕ) → G x → G y → g x ++ r ≡ g y ++ s → (x ≡ y) × (r ≡ s))
    → (x y : A × B) (r s : List ℕ) → F x.0 × G x.1 → F y.0 × G y.1 → (f x.0 ++ g x.1) ++ r ≡ (f y.0 ++ g y.1) ++ s → (x ≡ y) × (r ≡ s)
pair_one_way f g F G a b x y r s fits_x fits_y same =
    let regrouped : f x.0 ++ (g x.1 ++ r) ≡ f y.0 ++ (g y.1 ++ s) =
    sym (append_assoc (f x.0) (g x.1) r) ∙ same ∙ append_assoc (f y.0) (g y.1) s in
    let one = a x.0 y.0 (g x.1 ++ r) (g y.1 ++ s) fits_x.0 fits_y.0 regrouped in
    let two = b x.1 y.1 r s fits_x.1 fits_y.1 one.1 in
    (λ i. (one.0 i, two.0 i), two.1)

-- rows of one length
pub row_one_way : {A : Type 0} (f : A → List ℕ) (F : A → Type 0)
    → ((x y : A) (r s : List ℕ) → F x → F y → f x ++ r ≡ f y ++ s → (x ≡ y) × (r ≡ s))
    → (xs ys : List A) (r s : List ℕ) → length xs ≡ length ys → AllByRecursion F xs → AllByRecursion F ys
    → flat_map f xs ++ r ≡ flat_map f ys ++ s → (xs ≡ ys) × (r ≡ s)
row_one_way f F a [] [] r s len fits_x fits_y same = (refl, same)
row_one_way f F a [] (y ∷ ys) r s len fits_x fits_y same = absurd (omega (arith, len))
row_one_way f F a (x ∷ xs) [] r s len fits_x fits_y same = absurd (omega (arith, len))
row_one_way f F a (x ∷ xs) (y ∷ ys) r s len fits_x fits_y same =
    let regrouped : f x ++ (flat_map f xs ++ r) ≡ f y ++ (flat_map f ys ++ s) =
    sym (append_assoc (f x) (flat_map f xs) r) ∙ ap (λ (z : List ℕ). z ++ r) (sym (flat_map-cons f x xs)) ∙ same
    ∙ ap (λ (z : List ℕ). z ++ s) (flat_map-cons f y ys) ∙ append_assoc (f y) (flat_map f ys) s in
    let one = a x y (flat_map f xs ++ r) (flat_map f ys ++ s) fits_x.0 fits_y.0 regrouped in
    let rest = row_one_way f F a xs ys r s (omega (arith, len)) fits_x.1 fits_y.1 one.1 in
    (λ i. one.0 i ∷ rest.0 i, rest.1)

-- where bytes begin with fewer values and, with all of them, with a longer row, a value of that row stands behind the fewer
pub next_of_row : {A : Type 0} (f : A → List ℕ) (F : A → Type 0)
    → ((x y : A) (r s : List ℕ) → F x → F y → f x ++ r ≡ f y ++ s → (x ≡ y) × (r ≡ s))
    → (xs ys : List A) (r s : List ℕ) → length xs < length ys → AllByRecursion F xs → AllByRecursion F ys
    → flat_map f xs ++ r ≡ flat_map f ys ++ s → (y : A) × (rest : List ℕ) × F y × (r ≡ f y ++ rest)
next_of_row f F a xs [] r s less fits_x fits_y same = absurd (omega (arith, less))
next_of_row f F a [] (y ∷ ys) r s less fits_x fits_y same =
    (y, flat_map f ys ++ s, fits_y.0, same ∙ ap (λ (z : List ℕ). z ++ s) (flat_map-cons f y ys) ∙ append_assoc (f y) (flat_map f ys) s)
next_of_row f F a (x ∷ xs) (y ∷ ys) r s less fits_x fits_y same =
    let regrouped : f x ++ (flat_map f xs ++ r) ≡ f y ++ (flat_map f ys ++ s) =
    sym (append_assoc (f x) (flat_map f xs) r) ∙ ap (λ (z : List ℕ). z ++ r) (sym (flat_map-cons f x xs)) ∙ same
    ∙ ap (λ (z : List ℕ). z ++ s) (flat_map-cons f y ys) ∙ append_assoc (f y) (flat_map f ys) s in
    let one = a x y (flat_map f xs ++ r) (flat_map f ys ++ s) fits_x.0 fits_y.0 regrouped in
    next_of_row f F a xs ys r s (omega (arith, less)) fits_x.1 fits_y.1 one.1

pub signed_one_way : (x y : ℤ) (r s : List ℕ) → FitsSigned w64 x → FitsSigned w64 y → spelled_signed x ++ r ≡ spelled_signed y ++ s → (x ≡ y) × (r ≡ s)
signed_one_way x y r s fits_x fits_y same =
    let bits = number_one_way 8 (cast_unsigned w64 x) (cast_unsigned w64 y) r s (omega (arith, Fits-of_z fits_x)) (omega (arith, Fits-of_z fits_y)) same in
    (sym (to_z-of_z w64 x fits_x) ∙ ap (cast_signed w64) bits.0 ∙ to_z-of_z w64 y fits_y, bits.1)

pub option_one_way : {A : Type 0} (f : A → List ℕ) (F : A → Type 0)
    → ((x y : A) (r s : List ℕ) → F x → F y → f x ++ r ≡ f y ++ s → (x ≡ y) × (r ≡ s))
    → (x y : Option A) (r s : List ℕ) → IfSome x F → IfSome y F → spelled_option f x ++ r ≡ spelled_option f y ++ s → (x ≡ y) × (r ≡ s)
option_one_way f F a None None r s fits_x fits_y same = (refl, cc)
option_one_way f F a (Some x) (Some y) r s fits_x fits_y same =
    let one = a x y r s fits_x fits_y (cc) in
    (ap Some one.0, one.1)
option_one_way f F a None (Some y) r s fits_x fits_y same = absurd (omega (arith, ap (λ (z : List ℕ). get_or z 0 0) same))
option_one_way f F a (Some x) None r s fits_x fits_y same = absurd (omega (arith, ap (λ (z : List ℕ). get_or z 0 0) same))

-- rows behind their lengths
pub counted_one_way : {A : Type 0} (f : A → List ℕ) (F : A → Type 0)
    → ((x y : A) (r s : List ℕ) → F x → F y → f x ++ r ≡ f y ++ s → (x ≡ y) × (r ≡ s))
    → (xs ys : List A) (r s : List ℕ) → length xs < 256 ^ 2 → length ys < 256 ^ 2 → AllByRecursion F xs → AllByRecursion F ys
    → (spelled_number 2 (length xs) ++ flat_map f xs) ++ r ≡ (spelled_number 2 (length ys) ++ flat_map f ys) ++ s → (xs ≡ ys) × (r ≡ s)
counted_one_way f F a xs ys r s few_x few_y fits_x fits_y same =
    let regrouped : spelled_number 2 (length xs) ++ (flat_map f xs ++ r) ≡ spelled_number 2 (length ys) ++ (flat_map f ys ++ s) =
    sym (append_assoc (spelled_number 2 (length xs)) (flat_map f xs) r) ∙ same ∙ append_assoc (spelled_number 2 (length ys)) (flat_map f ys) s in
    let count = number_one_way 2 (length xs) (length ys) (flat_map f xs ++ r) (flat_map f ys ++ s) few_x few_y regrouped in
    row_one_way f F a xs ys r s count.0 fits_x fits_y count.1

-- the same, where there is room for so many values
pub counted_up_to_one_way : {A : Type 0} (f : A → List ℕ) (F : A → Type 0)
    → ((x y : A) (r s : List ℕ) → F x → F y → f x ++ r ≡ f y ++ s → (x ≡ y) × (r ≡ s))
    → (most : ℕ) → most < 65536
    → (xs ys : List A) (r s : List ℕ) → (length xs ≤ most) × AllByRecursion F xs → (length ys ≤ most) × AllByRecursion F ys
    → (spelled_number 2 (length xs) ++ flat_map f xs) ++ r ≡ (spelled_number 2 (length ys) ++ flat_map f ys) ++ s → (xs ≡ ys) × (r ≡ s)
counted_up_to_one_way f F a most small xs ys r s fits_x fits_y same =
    counted_one_way f F a xs ys r s (omega (arith, fits_x.0, small)) (omega (arith, fits_y.0, small)) fits_x.1 fits_y.1 same

-- words of one length
same_length : (v w r s : List ℕ) → length v ≡ length w → v ++ r ≡ w ++ s → (v ≡ w) × (r ≡ s)
same_length [] [] r s len same = (refl, same)
same_length [] (y ∷ w) r s len same = absurd (omega (arith, len))
same_length (x ∷ v) [] r s len same = absurd (omega (arith, len))
same_length (x ∷ v) (y ∷ w) r s len same =
    let first : x ≡ y = cc in
    let others : v ++ r ≡ w ++ s = cc in
    let rest = same_length v w r s (omega (arith, len)) others in
    (λ i. first i ∷ rest.0 i, rest.1)

pub word_one_way : (v w r s : List ℕ) → (length v ∷ v) ++ r ≡ (length w ∷ w) ++ s → (v ≡ w) × (r ≡ s)
word_one_way v w r s same =
    let len : length v ≡ length w = cc in
    let others : v ++ r ≡ w ++ s = cc in
    same_length v w r s len others

stands : (count : ℕ) (word old mid new : List ℕ) → old ≡ count ∷ mid → length word ≡ count → mid ≡ word ++ new → old ≡ (length word ∷ word) ++ new
stands count word old mid new read len behind = read ∙ ap (λ (n : ℕ). n ∷ mid) (sym len) ∙ ap (λ (z : List ℕ). length word ∷ z) behind

-- where a word stands, a word of a kind stands exactly if it is one
pub word_or_none : (IsWord : List ℕ → Type 0) (o : Option (List ℕ)) (count : ℕ) (word old mid new : List ℕ) → old ≡ count ∷ mid → length word ≡ count → mid ≡ word ++ new
    → SomeIff o (IsWord word) word
    → MatchOption o ((value : List ℕ) (rest : List ℕ) → IsWord value → old ≢ (length value ∷ value) ++ rest) (λ value. IsWord value × (old ≡ (length value ∷ value) ++ new))
word_or_none IsWord None count word old mid new read len behind none = λ value rest is same.
    let one = word_one_way value word rest new (sym same ∙ stands count word old mid new read len behind) in
    none (subst IsWord one.0 is)
word_or_none IsWord (Some value) count word old mid new read len behind some =
    (subst IsWord (sym some.1) some.0, stands count word old mid new read len behind ∙ ap (λ (v : List ℕ). (length v ∷ v) ++ new) (sym some.1))
