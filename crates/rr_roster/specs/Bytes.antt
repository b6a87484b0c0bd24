-- The companies as bytes.
use Rattle.std.specs.Prelude.{◌≡◌, ℕ, List, [], ◌∷◌, ◌++◌, refl, get_or}
use Rattle.std.proofs.Common.{ap, sym, ◌∙◌}
use Rattle.rr_roster.specs.declared.company.Corp.{Corp}
use Rattle.rr_roster.specs.declared.company.Corp.TheVariants as C
use Rattle.rr_roster.specs.Company.{corp_index}
use Rattle.rr_words.specs.Spelling.Form.{Form}

-- the corporation of a number
corp_at : ℕ → Corp
corp_at n = get_or corps n C.Prr
  where
    corps : List Corp
    corps = C.Prr ∷ C.Nyc ∷ C.Cpr ∷ C.Bo ∷ C.Co ∷ C.Erie ∷ C.Nynh ∷ C.Bm ∷ []

corp_at-index : (c : Corp) → corp_at (corp_index c) ≡ c
unfolding corp_at
corp_at-index C.Prr = refl
corp_at-index C.Nyc = refl
corp_at-index C.Cpr = refl
corp_at-index C.Bo = refl
corp_at-index C.Co = refl
corp_at-index C.Erie = refl
corp_at-index C.Nynh = refl
corp_at-index C.Bm = refl

pub corp_one_way : (c d : Corp) (r s : List ℕ) → corp_index c ∷ [] ++ r ≡ corp_index d ∷ [] ++ s → (c ≡ d) × (r ≡ s)
corp_one_way c d r s same =
    let number : corp_index c ≡ corp_index d = cc in
    (sym (corp_at-index c) ∙ ap corp_at number ∙ corp_at-index d, cc)

-- a corporation is its number
abbrev pub corp_form : Form Corp
corp_form = record { spelling = λ c. corp_index c ∷ []; Fits = λ c. Unit {0}; one_way = λ c d r s fits_c fits_d same. corp_one_way c d r s same }
