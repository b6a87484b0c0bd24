-- What the tests on a word tell.
use Rattle.std.proofs.Common.{◌≡◌, ℕ, suc, ◌-◌, ◌<◌, ◌≤◌, ◌⊎◌, ◌==◌, not, Bool, List, [], ◌∷◌, length, ltb, map, refl, ◌∙◌, ap, inl, inr, arith}
use Rattle.std.specs.Bool.{Decides}
use Rattle.std.specs.List.{Contains, list_any}
use Rattle.std.proofs.lemmas.Bool.{cases_eq, cases_lt}
use Rattle.std.proofs.lemmas.Bool.Decides.{Decides-eqb, Decides-ltb, Decides-like, Decides-not, Decides-or}
use Rattle.rr_routes.specs.declared.net.CentreLimit.{CentreLimit}
use Rattle.rr_routes.specs.Net.{Net}
use Rattle.rr_routes.proofs.Elements.{Contains-here, Contains-there}
use Rattle.rr_checker.proofs.StepLemmas.{Decides-list_any}
use Rattle.rr_routes.specs.declared.sheets.sheet.TrainWord.{TrainWord}
use Rattle.rr_referee.specs.Sheets.{IsItsWord, limit_of_kind, links_of}
use Rattle.rr_referee.specs.Tests.{is_no_link}

Decides-is_no_link : (count number : ℕ) → Decides (is_no_link count number) ((number ≡ 0) ⊎ (count < number))
Decides-is_no_link count number = Decides-or (number == 0) (ltb count number) (Decides-eqb number 0) (Decides-ltb count number)

-- whether the numbers are those of links
pub Decides-names : (count : ℕ) (numbers : List ℕ)
    → Decides (not (list_any (is_no_link count) numbers)) ((number : ℕ) → Contains numbers number → (0 < number) × (number ≤ count))
Decides-names count numbers =
    Decides-like (not (list_any (is_no_link count) numbers))
    (λ none number c. (
      elim (cases_eq number 0) [ inl nothing ↦ absurd (none (number, c, inl nothing)) | inr some ↦ omega arith ],
      elim (cases_lt count number) [ inl beyond ↦ absurd (none (number, c, inr beyond)) | inr within ↦ within ],
    ))
    (λ each found. let fits = each found.0 found.1 in elim found.2 [ inl nothing ↦ omega (arith, fits.0) | inr beyond ↦ omega (arith, fits.1) ])
    (Decides-not (list_any (is_no_link count) numbers)
    (Decides-list_any (is_no_link count) (λ number. (number ≡ 0) ⊎ (count < number)) numbers (λ number c. Decides-is_no_link count number)))

-- a word of the train's kind is its own where its numbers are those of links
pub own_word : (net : Net) (limit : CentreLimit) (word : TrainWord) (links : Bool) → limit_of_kind word.kind ≡ limit
    → Decides links ((number : ℕ) → Contains word.links number → (0 < number) × (number ≤ length net.links)) → Decides links (IsItsWord net limit word)
own_word net limit word links kind d = Decides-like links (λ named. record { kind = kind; links = named }) (λ its. its.links) d

-- the numbers of the links are one more than their places
numbers_back : (numbers : List ℕ) → ((number : ℕ) → Contains numbers number → 0 < number) → numbers ≡ map suc (map (λ number. number - 1) numbers)
numbers_back [] each = refl
numbers_back (number ∷ numbers) each =
    let some = each number (Contains-here number numbers) in
    let back : number ≡ suc (number - 1) = omega (arith, some) in
    ap (λ first. first ∷ numbers) back ∙ ap (λ (rest : List ℕ). suc (number - 1) ∷ rest) (numbers_back numbers (λ other c. each other (Contains-there number numbers other c)))

pub word_numbers : (net : Net) (limit : CentreLimit) (word : TrainWord) → IsItsWord net limit word → word.links ≡ map suc (links_of word)
word_numbers net limit word its = numbers_back word.links (λ number c. (its.links number c).0)
