-- The counts at the ends of turns as bytes: the words of their set, one behind the other.
use Rattle.std.specs.Prelude.{◌≡◌, ℕ, ◌<◌, ◌^◌, List, ◌++◌}
use Rattle.std.proofs.Common.{sym, ◌∙◌, ap}
use Rattle.std.proofs.lemmas.List.Elements.{All-from_get_or, recursion_from_All}
use Rattle.rr_words.specs.Spelling.Form.{Form, number_form, row_form}
use Rattle.rr_turns.specs.Counts.{AreEnds, IsSet, counts_of, words_of}
use Rattle.rr_turns.specs.Sets.{are_set, counts_of-words_of}

-- 64 numbers of eight bytes
abbrev pub words_form : Form (List ℕ)
words_form = row_form 64 (number_form 8)

pub set_fits : (words : List ℕ) → IsSet words → words_form.Fits words
set_fits words h =
    (h.all, recursion_from_All (λ (n : ℕ). n < 256 ^ 8) words (All-from_get_or (λ (n : ℕ). n < 256 ^ 8) words 0 (λ k within. h.fits k)))

pub ends_one_way : (x y : List ℕ) (r s : List ℕ) → AreEnds x → AreEnds y → words_form.spelling (words_of x) ++ r ≡ words_form.spelling (words_of y) ++ s → (x ≡ y) × (r ≡ s)
ends_one_way x y r s fits_x fits_y same =
    let one = words_form.one_way (words_of x) (words_of y) r s (set_fits (words_of x) (are_set x fits_x)) (set_fits (words_of y) (are_set y fits_y)) same in
    (sym (counts_of-words_of x fits_x) ∙ ap counts_of one.0 ∙ counts_of-words_of y fits_y, one.1)

abbrev pub ends_form : Form (List ℕ)
ends_form = record { spelling = λ counts. words_form.spelling (words_of counts); Fits = AreEnds; one_way = ends_one_way }
