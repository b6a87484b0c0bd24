-- Pages that are taken of a file in which none is reached follow one another.
use Rattle.std.proofs.Common.{◌≡◌, inl, inr, ℕ, zero, suc, ◌+◌, ◌<◌, ◌≤◌, Bool, true, false, List, [], ◌∷◌, ◌++◌, get_or, length, refl, sym, ◌∙◌, ap, subst, arith}
use Rattle.std.proofs.lemmas.Bool.{cases_lt}
use Rattle.std.proofs.lemmas.List.{length-set}
use Rattle.rr_pages.specs.Pages.{IsIn}
use Rattle.rr_pages.specs.Sets.{marked, Has, IsFree, IsFirstFree, TakesFree, TooFewFree}
use Rattle.rr_pages.proofs.SetLemmas.{not_both, has_more}
use Rattle.rr_log.specs.Formatting.InTurn.{pages_from, AreInTurn}

in_from : (p page count : ℕ) → IsIn p (pages_from page count) → (page ≤ p) × (p < page + count)
in_from p page zero inside = absurd inside
in_from p page (suc count) (inl is) = (omega (arith, is), omega (arith, is))
in_from p page (suc count) (inr inside) = let later = in_from p (page + 1) count inside in (omega (arith, later.0), omega (arith, later.1))

from_in : (p page count : ℕ) → page ≤ p → p < page + count → IsIn p (pages_from page count)
from_in p page zero low high = absurd (omega (arith, low, high))
from_in p page (suc count) low high = elim (cases_lt page p) [
  | inl above ↦ inr (from_in p (page + 1) count (omega (arith, above)) (omega (arith, high)))
  | inr below ↦ inl (omega (arith, low, below))
]

pub from_last : (page count : ℕ) → pages_from page (suc count) ≡ pages_from page count ++ (page + count) ∷ []
from_last page zero = ap (λ (p : ℕ). p ∷ []) (omega arith)
from_last page (suc count) =
    let place : (page + 1) + count ≡ page + suc count = omega arith in
    ap (λ (pages : List ℕ). page ∷ pages) (from_last (page + 1) count ∙ ap (λ (p : ℕ). pages_from (page + 1) count ++ p ∷ []) place)

unmarked_is : (b : Bool) → (b ≡ true → ⊥) → b ≡ false
unmarked_is true none = absurd (none refl)
unmarked_is false none = refl

-- the page behind those that were taken is free
pub next_free : (present coming : List Bool) (count : ℕ) → 514 + count < 65536 → AreInTurn present coming count → IsFree present coming (514 + count)
next_free present coming count under turn =
    record {
      data_page = omega arith;
      under = under;
      not_present = turn.no_root (514 + count);
      not_coming = unmarked_is (get_or coming (514 + count) false) (λ is. omega (arith, (in_from (514 + count) 514 count ((turn.taken (514 + count)).0 is)).1));
    }

-- and it is the first one
first_is : (present coming : List Bool) (count page : ℕ) → AreInTurn present coming count → IsFirstFree present coming page → page ≡ 514 + count
first_is present coming count page turn first = elim (cases_lt page (514 + count)) [
  | inl below ↦ absurd (not_both (get_or coming page false) ((turn.taken page).1 (from_in page 514 count first.free.data_page below)) first.free.not_coming)
  | inr over ↦ elim (cases_lt (514 + count) page) [
    | inl above ↦ absurd (first.first (514 + count) above (next_free present coming count (omega (arith, above, first.free.under)) turn))
    | inr below ↦ omega (arith, over, below)
  ]
]

-- pages that are taken one after another
pub record TookInTurn (present after : List Bool) (count : ℕ) (pages : List ℕ) : Type 0 where
  pub are : pages ≡ pages_from (514 + count) (length pages)
  pub turn : AreInTurn present after (count + length pages)

one_more : (present coming : List Bool) (count page : ℕ) → AreInTurn present coming count → IsFirstFree present coming page → AreInTurn present (marked coming page) (suc count)
one_more present coming count page turn first =
    let is = first_is present coming count page turn first in
    record {
      no_root = turn.no_root;
      taken = subst (λ (pages : List ℕ). Has (marked coming page) pages) (ap (λ (p : ℕ). pages_from 514 count ++ p ∷ []) is ∙ sym (from_last 514 count))
          (has_more coming (pages_from 514 count) page (omega (arith, turn.marks, first.free.under)) turn.taken);
      marks = length-set coming page true ∙ turn.marks;
    }

pub took_in_turn : (present coming after : List Bool) (count : ℕ) (pages : List ℕ) → AreInTurn present coming count → TakesFree present coming pages after → TookInTurn present after count pages
took_in_turn present coming after count [] turn takes =
    record { are = refl; turn = subst (λ (n : ℕ). AreInTurn present after n) (omega arith) (subst (λ (marks : List Bool). AreInTurn present marks count) (sym takes) turn) }
took_in_turn present coming after count (page ∷ pages) turn takes =
    let is = first_is present coming count page turn takes.0 in
    let later = took_in_turn present (marked coming page) after (suc count) pages (one_more present coming count page turn takes.0) takes.1 in
    let place : 514 + suc count ≡ (514 + count) + 1 = omega arith in
    record {
      are = (λ i. is i ∷ later.are i) ∙ ap (λ (n : ℕ). (514 + count) ∷ pages_from n (length pages)) place;
      turn = subst (λ (n : ℕ). AreInTurn present after n) (omega arith) later.turn;
    }

-- so there are always enough for few pages
pub never_full : (present coming : List Bool) (count needed : ℕ) → count + needed ≤ 60000 → AreInTurn present coming count → TooFewFree present coming needed → ⊥
never_full present coming count needed few turn too =
    let took = took_in_turn present coming too.after count too.all turn too.taken in
    too.none_left (514 + (count + length too.all)) (next_free present too.after (count + length too.all) (omega (arith, few, too.fewer)) took.turn)
