-- How the checks of a command follow one another, where some of them are tests and others relations.
use Rattle.std.specs.Prelude.{◌≡◌, ◌⊎◌, Option, None, Some}
use Rattle.rr_books.specs.declared.refusal.Refusal.{Refusal}

-- the first fault, or else what comes next
abbrev pub After : Option Refusal → (Option Refusal → Type 0) → Option Refusal → Type 0
After (Some fault) Next verdict = verdict ≡ Some fault
After None Next verdict = Next verdict

-- a fault where something doesn't hold, or else what comes next
abbrev pub Needs : Type 0 → Refusal → (Option Refusal → Type 0) → Option Refusal → Type 0
Needs Needed lacking Next verdict = (¬ Needed × (verdict ≡ Some lacking)) ⊎ (Needed × Next verdict)
