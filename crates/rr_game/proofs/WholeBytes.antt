-- Values of which bytes are all, and not only the first ones.
use Rattle.std.specs.Prelude.{MatchOption}
use Rattle.std.proofs.Common.{◌≡◌, ◌≢◌, Bool, Option, None, Some, false, List, ℕ, [], ◌++◌, ap, sym, ◌∙◌, IsTrue, ◌↔◌}
use Rattle.std.proofs.lemmas.List.{append-nil}
use Rattle.rr_words.specs.Spelling.Form.{Form}

-- bytes that begin with no value are those of none
none_at_all : {A : Type 0} (form : Form A) (bytes cursor : List ℕ) → cursor ≡ bytes
    → ((value : A) (rest : List ℕ) → form.Fits value → cursor ≢ form.spelling value ++ rest)
    → (value : A) → form.Fits value → bytes ≢ form.spelling value
none_at_all form bytes cursor all none value fits = λ same.
    none value [] fits (all ∙ same ∙ sym (append-nil (form.spelling value)))

-- nor are those behind whose value some are left
more_than_one : {A : Type 0} (form : Form A) (bytes cursor left : List ℕ) (read : A) (is_empty : Bool) → cursor ≡ bytes
    → form.Fits read → cursor ≡ form.spelling read ++ left → (IsTrue is_empty ↔ (left ≡ [])) → is_empty ≡ false
    → (value : A) → form.Fits value → bytes ≢ form.spelling value
more_than_one form bytes cursor left read is_empty all fit begins told some value fits = λ same.
    let one = form.one_way read value left [] fit fits (sym begins ∙ all ∙ same ∙ sym (append-nil (form.spelling value))) in
    let empty : IsTrue is_empty = told.1 one.1 in
    cc

-- what was read is that of all bytes where none is left
pub read_whole : {A : Type 0} (form : Form A) (bytes cursor left : List ℕ) (read : Option A) (is_empty : Bool) → cursor ≡ bytes
    → MatchOption read ((value : A) (rest : List ℕ) → form.Fits value → cursor ≢ form.spelling value ++ rest) (λ value. form.Fits value × (cursor ≡ form.spelling value ++ left))
    → (IsTrue is_empty ↔ (left ≡ [])) → IsTrue is_empty
    → MatchOption read ((value : A) → form.Fits value → bytes ≢ form.spelling value) (λ value. form.Fits value × (bytes ≡ form.spelling value))
read_whole form bytes cursor left None is_empty all none told nothing = none_at_all form bytes cursor all none
read_whole form bytes cursor left (Some value) is_empty all begins told nothing =
    (begins.0, sym all ∙ begins.1 ∙ ap (λ (z : List ℕ). form.spelling value ++ z) (told.0 nothing) ∙ append-nil (form.spelling value))

-- and of none where some are
pub read_in_part : {A : Type 0} (form : Form A) (bytes cursor left : List ℕ) (read : Option A) (is_empty : Bool) → cursor ≡ bytes
    → MatchOption read ((value : A) (rest : List ℕ) → form.Fits value → cursor ≢ form.spelling value ++ rest) (λ value. form.Fits value × (cursor ≡ form.spelling value ++ left))
    → (IsTrue is_empty ↔ (left ≡ [])) → is_empty ≡ false
    → (value : A) → form.Fits value → bytes ≢ form.spelling value
read_in_part form bytes cursor left None is_empty all none told some = none_at_all form bytes cursor all none
read_in_part form bytes cursor left (Some read) is_empty all begins told some = more_than_one form bytes cursor left read is_empty all begins.0 begins.1 told some
