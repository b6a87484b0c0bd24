-- How a chain is followed from its first page on, whatever bytes a file holds, and which clause it breaks first.
use Rattle.std.specs.Prelude.{◌≡◌, ◌≢◌, ◌⊎◌, ℕ, ◌==◌, nat_lt, if◌then◌else◌, Bool, List, [], ◌∷◌, Option, None, Some, sum_by}
use Rattle.std.specs.List.{list_any}
use Rattle.rr_pages.specs.declared.page.TheConstants.{MOST_USED}
use Rattle.rr_pages.specs.declared.fault.Damage.{Damage}
use Rattle.rr_pages.specs.declared.fault.Damage.TheVariants.{PageOutside, PageTwice, UsedBytes, Form}
use Rattle.rr_pages.specs.Pages.{IsData}
use Rattle.rr_pages.specs.Chains.{next_of, used_of}
use Rattle.rr_pages.specs.Sets.{IsMarked, marked}

-- From this page on a chain goes over these pages, none of them reached before, in a file of so many pages. It ends at
-- its last page, or breaks off at a number that no data page has or at a page that was reached before.
abbrev pub Walk : List ℕ → ℕ → List Bool → ℕ → List ℕ → Option Damage → Type 0
Walk file count reached page [] end =
    ((IsData count page → ⊥) × (end ≡ Some PageOutside)) ⊎ (IsData count page × IsMarked reached page × (end ≡ Some PageTwice))
Walk file count reached page (p ∷ pages) end =
    (page ≡ p) × IsData count p × (IsMarked reached p → ⊥)
    × (((next_of file p ≡ 0) × (pages ≡ []) × (end ≡ None)) ⊎ ((next_of file p ≢ 0) × Walk file count (marked reached p) (next_of file p) pages end))

-- a chain of so many bytes that should have this length, where one is stated
abbrev pub length_damage : ℕ → Option ℕ → Option Damage
length_damage total None = None
length_damage total (Some stated) = if total == stated then None else Some Form

-- The first clause that a chain breaks which was followed over these pages to this end: where it breaks off, then pages
-- with too many used bytes, then its length.
abbrev pub damage_of : List ℕ → List ℕ → Option Damage → Option ℕ → Option Damage
damage_of file pages (Some damage) stated = Some damage
damage_of file pages None stated =
    if list_any (λ page. nat_lt MOST_USED (used_of file page)) pages then Some UsedBytes else length_damage (sum_by (used_of file) pages) stated
