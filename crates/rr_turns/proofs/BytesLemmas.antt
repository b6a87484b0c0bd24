-- Words that were read: a set, if the opening's count is among them.
use Rattle.std.proofs.Common.{◌≡◌, ◌≢◌, ℕ, ◌^◌, ◌<◌, true, false, List, ◌++◌, length, sym, ap, ◌∙◌, inl, inr, arith}
use Rattle.std.specs.Prelude.{Result, Ok, Err, OnOk}
use Rattle.std.proofs.lemmas.Bool.{both_ways, cases_lt}
use Rattle.std.proofs.lemmas.List.{get_or_past}
use Rattle.std.proofs.lemmas.List.Elements.{All-from_recursion}
use Rattle.rr_turns.specs.Counts.{AreEnds, IsSet, counts_of, is_held, words_of}
use Rattle.rr_turns.specs.Sets.{are_set, words_of-counts_of}
use Rattle.rr_turns.specs.Bytes.{set_fits, words_form}

pub set-read : (words : List ℕ) → words_form.Fits words → is_held words 1 ≡ true → IsSet words
set-read words fits opening = record {
  all = fits.0;
  fits = λ k. elim (cases_lt k (length words)) [
    | inl within ↦ All-from_recursion (λ (n : ℕ). n < 256 ^ 8) words fits.1 k 0 within
    | inr past ↦ omega (arith, get_or_past words k 0 past)
  ];
  opening = opening;
}

pub none-read : (words old new : List ℕ) → words_form.Fits words → is_held words 1 ≡ false → old ≡ words_form.spelling words ++ new
    → (value rest : List ℕ) → AreEnds value → old ≢ words_form.spelling (words_of value) ++ rest
none-read words old new fits unopened read value rest ends same =
    let set = are_set value ends in
    let one = words_form.one_way words (words_of value) new rest fits (set_fits (words_of value) set) (sym read ∙ same) in
    both_ways (is_held words 1) unopened (ap (λ (ws : List ℕ). is_held ws 1) one.0 ∙ set.opening)

pub spelled : (words : List ℕ) → IsSet words → words_form.spelling (words_of (counts_of words)) ≡ words_form.spelling words
spelled words h = ap words_form.spelling (words_of-counts_of words h)

pub whenever : {T E : Type 0} (r : Result T E) (P : Type 0) → P → OnOk r P
whenever (Ok value) P p = p
whenever (Err fault) P p = tt
