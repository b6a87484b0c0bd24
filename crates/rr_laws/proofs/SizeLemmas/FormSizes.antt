-- How many bytes the values of a form take.
use Rattle.std.specs.List.{AllByRecursion, flat_map}
use Rattle.std.specs.Prelude.{◌≤◌, Option, None, Some, IfSome}
use Rattle.std.specs.Int.{w64, cast_unsigned}
use Rattle.std.proofs.Common.{◌≡◌, ℕ, ◌+◌, ◌*◌, ◌<◌, List, [], ◌∷◌, length, arith, length-append}
use Rattle.std.proofs.Math.Nat.{mul-le-mul_right}
use Rattle.rr_words.specs.Spelling.Number.{spelled_number, spelled_option}
use Rattle.rr_words.specs.Spelling.Form.{Form, bool_form, byte_form, counted_form, form_by, number_form, option_form, pair_form, row_form, signed_form, word_form}
use Rattle.rr_words.proofs.SpellingLemmas.NumberLemmas.{length-spelled_number}

-- the values of a form take so many bytes at least, and so many at most
pub record Takes {A : Type 0} (form : Form A) (least most : ℕ) : Type 0 where
  pub no_fewer : (x : A) → form.Fits x → least ≤ length (form.spelling x)
  pub no_more : (x : A) → form.Fits x → length (form.spelling x) ≤ most

pub byte_takes : Takes byte_form 1 1
byte_takes = record { no_fewer = λ n fits. omega arith; no_more = λ n fits. omega arith }

pub bool_takes : Takes bool_form 1 1
bool_takes = record { no_fewer = λ b fits. omega arith; no_more = λ b fits. omega arith }

pub number_takes : (n : ℕ) → Takes (number_form n) n n
number_takes n = record {
  no_fewer = λ x fits. omega (arith, length-spelled_number n x);
  no_more = λ x fits. omega (arith, length-spelled_number n x);
}

pub signed_takes : Takes signed_form 8 8
signed_takes = record {
  no_fewer = λ z fits. omega (arith, length-spelled_number 8 (cast_unsigned w64 z));
  no_more = λ z fits. omega (arith, length-spelled_number 8 (cast_unsigned w64 z));
}

pub pair_takes : {A B : Type 0} {f : Form A} {g : Form B} {a b c d : ℕ} → Takes f a b → Takes g c d → Takes (pair_form f g) (a + c) (b + d)
pair_takes {f = f} {g = g} one two = record {
  no_fewer = λ x fits. omega (arith, length-append (f.spelling x.0) (g.spelling x.1), one.no_fewer x.0 fits.0, two.no_fewer x.1 fits.1);
  no_more = λ x fits. omega (arith, length-append (f.spelling x.0) (g.spelling x.1), one.no_more x.0 fits.0, two.no_more x.1 fits.1);
}

pub form_by_takes : {A B : Type 0} {f : Form A} {a b : ℕ} (to : B → A) (of : A → B) (back : (b : B) → of (to b) ≡ b) → Takes f a b → Takes (form_by f to of back) a b
form_by_takes to of back one = record { no_fewer = λ x. one.no_fewer (to x); no_more = λ x. one.no_more (to x) }

-- of a value that may be absent
some_or_none-ge : {A : Type 0} (f : Form A) (option : Option A) → 1 ≤ length (spelled_option f.spelling option)
some_or_none-ge f None = omega arith
some_or_none-ge f (Some x) = omega arith

some_or_none-le : {A : Type 0} (f : Form A) (least most : ℕ) → Takes f least most → (option : Option A) → IfSome option f.Fits → length (spelled_option f.spelling option) ≤ 1 + most
some_or_none-le f least most one None fits = omega arith
some_or_none-le f least most one (Some x) fits = let few = one.no_more x fits in omega (arith, few)

pub option_takes : {A : Type 0} {f : Form A} {a b : ℕ} → Takes f a b → Takes (option_form f) 1 (1 + b)
option_takes {f = f} {a = a} {b = b} one = record { no_fewer = λ option fits. some_or_none-ge f option; no_more = λ option fits. some_or_none-le f a b one option fits }

-- of values one behind the other
pub each-ge : {A : Type 0} (f : Form A) (least most : ℕ) → Takes f least most → (xs : List A) → AllByRecursion f.Fits xs → length xs * least ≤ length (flat_map f.spelling xs)
each-ge f least most one [] fits = omega arith
each-ge f least most one (x ∷ xs) fits =
    let first = one.no_fewer x fits.0 in
    let others = each-ge f least most one xs fits.1 in
    omega (arith, length-append (f.spelling x) (flat_map f.spelling xs), first, others)

pub each-le : {A : Type 0} (f : Form A) (least most : ℕ) → Takes f least most → (xs : List A) → AllByRecursion f.Fits xs → length (flat_map f.spelling xs) ≤ length xs * most
each-le f least most one [] fits = omega arith
each-le f least most one (x ∷ xs) fits =
    let first = one.no_more x fits.0 in
    let others = each-le f least most one xs fits.1 in
    omega (arith, length-append (f.spelling x) (flat_map f.spelling xs), first, others)

pub row_takes : {A : Type 0} {f : Form A} {a b : ℕ} (n : ℕ) → Takes f a b → Takes (row_form n f) (n * a) (n * b)
row_takes {f = f} {a = a} {b = b} n one = record {
  no_fewer = λ xs fits. rw (← fits.0) (each-ge f a b one xs fits.1);
  no_more = λ xs fits. rw (← fits.0) (each-le f a b one xs fits.1);
}

pub counted_takes : {A : Type 0} {f : Form A} {a b : ℕ} (most : ℕ) (small : most < 65536) → Takes f a b → Takes (counted_form most small f) 2 (2 + most * b)
counted_takes {f = f} {a = a} {b = b} most small one = record {
  no_fewer = λ xs fits. omega (arith, length-append (spelled_number 2 (length xs)) (flat_map f.spelling xs), length-spelled_number 2 (length xs));
  no_more = λ xs fits.
      omega (arith, length-append (spelled_number 2 (length xs)) (flat_map f.spelling xs), length-spelled_number 2 (length xs), each-le f a b one xs fits.1, mul-le-mul_right b fits.0);
}

-- of a word, whose length stands in front
pub word_takes : (IsWord : List ℕ → Type 0) (least most : ℕ) → ((w : List ℕ) → IsWord w → least ≤ length w) → ((w : List ℕ) → IsWord w → length w ≤ most)
    → Takes (word_form IsWord) (1 + least) (1 + most)
word_takes IsWord least most some few = record {
  no_fewer = λ w fits. let h = some w fits in omega (arith, h);
  no_more = λ w fits. let h = few w fits in omega (arith, h);
}
