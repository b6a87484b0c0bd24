-- The form in which the values of a type are bytes.
use Rattle.std.specs.Prelude.{◌≡◌, ℕ, ◌<◌, ◌^◌, List, [], ◌∷◌, ◌++◌, Bool, Option, IfSome, ℤ, FitsSigned, length, ◌≤◌, drop}
use Rattle.std.specs.List.{AllByRecursion, flat_map}
use Rattle.std.specs.Int.{w64}
use Rattle.std.proofs.Common.{sym, ◌∙◌, ap}
use Rattle.rr_words.specs.Spelling.Number.{spelled_bool, spelled_number, spelled_option, spelled_signed}
use Rattle.rr_words.specs.Spelling.OneWay.{byte_one_way, bool_one_way, number_one_way, signed_one_way, pair_one_way, option_one_way, row_one_way, counted_up_to_one_way, word_one_way}

-- each value has its bytes, and bytes begin with one value at most. In a clause a number of a type is any number: `Fits`
-- says what is true of those of the type
pub record Form (A : Type 0) : Type 1 where
  pub spelling : A → List ℕ
  pub Fits : A → Type 0
  pub one_way : (x y : A) (r s : List ℕ) → Fits x → Fits y → spelling x ++ r ≡ spelling y ++ s → (x ≡ y) × (r ≡ s)

-- a byte, a truth value, a number of n bytes, and a signed one of eight
abbrev pub byte_form : Form ℕ
byte_form = record { spelling = λ n. n ∷ []; Fits = λ n. n < 2 ^ 8; one_way = byte_one_way }

abbrev pub bool_form : Form Bool
bool_form = record { spelling = spelled_bool; Fits = λ b. Unit {0}; one_way = λ x y r s fits_x fits_y same. bool_one_way x y r s same }

abbrev pub number_form : ℕ → Form ℕ
number_form n = record { spelling = spelled_number n; Fits = λ x. x < 256 ^ n; one_way = number_one_way n }

abbrev pub signed_form : Form ℤ
signed_form = record { spelling = spelled_signed; Fits = λ z. FitsSigned w64 z; one_way = signed_one_way }

-- two values, one behind the other
abbrev pub pair_form : {A B : Type 0} → Form A → Form B → Form (A × B)
pair_form f g = record {
  spelling = λ pair. f.spelling pair.0 ++ g.spelling pair.1;
  Fits = λ pair. f.Fits pair.0 × g.Fits pair.1;
  one_way = pair_one_way f.spelling g.spelling f.Fits g.Fits f.one_way g.one_way;
}

-- 1 and a value, or 0 where there is none
abbrev pub option_form : {A : Type 0} → Form A → Form (Option A)
option_form f = record {
  spelling = spelled_option f.spelling;
  Fits = λ option. IfSome option f.Fits;
  one_way = option_one_way f.spelling f.Fits f.one_way;
}

-- so many values, one behind the other
abbrev pub row_form : {A : Type 0} → ℕ → Form A → Form (List A)
row_form n f = record {
  spelling = flat_map f.spelling;
  Fits = λ xs. (length xs ≡ n) × AllByRecursion f.Fits xs;
  one_way = λ xs ys r s fits_x fits_y same. row_one_way f.spelling f.Fits f.one_way xs ys r s (fits_x.0 ∙ sym fits_y.0) fits_x.1 fits_y.1 same;
}

-- values that stand for those of another type
abbrev pub form_by : {A B : Type 0} → Form A → (to : B → A) → (of : A → B) → ((b : B) → of (to b) ≡ b) → Form B
form_by f to of back = record {
  spelling = λ b. f.spelling (to b);
  Fits = λ b. f.Fits (to b);
  one_way = λ b c r s fits_b fits_c same.
      let one = f.one_way (to b) (to c) r s fits_b fits_c same in
      (sym (back b) ∙ ap of one.0 ∙ back c, one.1);
}

-- how many values there are, in two bytes, and each of them; there is room for so many
abbrev pub counted_form : {A : Type 0} → (most : ℕ) → most < 65536 → Form A → Form (List A)
counted_form most small f = record {
  spelling = λ xs. spelled_number 2 (length xs) ++ flat_map f.spelling xs;
  Fits = λ xs. (length xs ≤ most) × AllByRecursion f.Fits xs;
  one_way = λ xs ys r s fits_x fits_y same. counted_up_to_one_way f.spelling f.Fits f.one_way most small xs ys r s fits_x fits_y same;
}

-- the first so many slots were taken, and the others stayed
pub record IsTaken {A : Type 0} (old : List A) (taken : ℕ) (new : List A) : Type 0 where
  pub fits : taken ≤ length new
  pub all : length new ≡ length old
  pub rest : drop taken new ≡ drop taken old

-- the length of a word in a byte, and the word
abbrev pub word_form : (List ℕ → Type 0) → Form (List ℕ)
word_form IsWord = record { spelling = λ w. length w ∷ w; Fits = IsWord; one_way = λ v w r s fits_v fits_w same. word_one_way v w r s same }
