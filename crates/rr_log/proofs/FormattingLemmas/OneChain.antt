-- One chain more of a new file.
use Rattle.std.proofs.Common.{◌≡◌, ℕ, suc, ◌+◌, ◌*◌, ◌≤◌, Bool, List, [], ◌∷◌, length, map, refl, sym, ◌∙◌, ap, subst, arith, length-append}
use Rattle.std.proofs.lemmas.List.{length-map}
use Rattle.rr_pages.specs.declared.chain.FreshPage.{FreshPage}
use Rattle.rr_pages.specs.Laying.{laid, joined, FitEach, FillPages}
use Rattle.rr_pages.specs.Writing.{fresh_of, IsLaid}
use Rattle.rr_log.specs.Formatting.InTurn.{AreInTurn}
use Rattle.rr_log.proofs.FormattingLemmas.InTurn.{took_in_turn}

laid_count : (pages : List ℕ) (pieces : List (List ℕ)) → FitEach pages pieces → length (laid pages pieces) ≡ length pages
laid_count [] pieces fit = refl
laid_count (page ∷ pages) [] fit = absurd fit
laid_count (page ∷ pages) (piece ∷ pieces) fit = ap suc (laid_count pages pieces fit.3)

filled : (pages : List ℕ) (pieces : List (List ℕ)) → FitEach pages pieces → FillPages pieces → 4086 * length pages ≤ length (joined pieces) + 4086
filled [] pieces fit fill = omega arith
filled (page ∷ pages) [] fit fill = absurd fit
filled (page ∷ []) (piece ∷ pieces) fit fill = omega arith
filled (page ∷ next ∷ pages) (piece ∷ []) fit fill = absurd fit.3
filled (page ∷ next ∷ pages) (piece ∷ other ∷ pieces) fit fill =
    omega (arith, fill.0, filled (next ∷ pages) (other ∷ pieces) fit.3 fill.1, length-append piece (joined (other ∷ pieces)))

pub laid_length : (present coming after : List Bool) (bytes : List ℕ) (old new : List FreshPage) (head : ℕ) → (is : IsLaid present coming after bytes old new head) → length new ≡ length old + length is.pages
laid_length present coming after bytes old new head is =
    sym (length-map new fresh_of) ∙ (ap (λ (xs : List (ℕ × List ℕ)). length xs) is.fresh ∙ (length-append (map fresh_of old) (laid is.pages is.pieces)
    ∙ (λ i. length-map old fresh_of i + laid_count is.pages is.pieces is.fit.each i)))

pub laid_few : (present coming after : List Bool) (bytes : List ℕ) (old new : List FreshPage) (head : ℕ) → IsLaid present coming after bytes old new head → length bytes ≤ 65536 → length new ≤ length old + 17
laid_few present coming after bytes old new head is short =
    omega (arith, short, laid_length present coming after bytes old new head is, filled is.pages is.pieces is.fit.each is.fill, ap (λ (xs : List ℕ). length xs) is.whole)

pub laid_in_turn : (present coming after : List Bool) (bytes : List ℕ) (old new : List FreshPage) (head : ℕ) → IsLaid present coming after bytes old new head → AreInTurn present coming (length old) → AreInTurn present after (length new)
laid_in_turn present coming after bytes old new head is turn =
    subst (λ (n : ℕ). AreInTurn present after n) (sym (laid_length present coming after bytes old new head is)) (took_in_turn present coming after (length old) is.pages turn is.taken).turn
