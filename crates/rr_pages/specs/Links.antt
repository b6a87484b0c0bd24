-- What following a chain gathers.
use Rattle.std.specs.Prelude.{◌≡◌, ◌⊎◌, ℕ, ◌+◌, ◌*◌, ◌<◌, nat_lt, ◌&&◌, if◌then◌else◌, Bool, true, List, [], ◌∷◌, ◌++◌, length, map, sum_by, Option, None, Some}
use Rattle.std.specs.List.{list_any}
use Rattle.rr_pages.specs.declared.page.TheConstants.{PAGE_BYTES, LINK_BYTES, MOST_USED}
use Rattle.rr_pages.specs.declared.fault.Damage.{Damage}
use Rattle.rr_pages.specs.declared.fault.Damage.TheVariants.{UsedBytes}
use Rattle.rr_pages.specs.declared.reading.Link.{Link}
use Rattle.rr_pages.specs.Chains.{used_of}
use Rattle.rr_pages.specs.Pages.{StandsAt}
use Rattle.rr_pages.specs.Walk.{length_damage}

abbrev pub pages_of : List Link → List ℕ
pages_of links = map (λ link. link.page) links

-- each says how many bytes of its page are used
abbrev pub AreLinks : List ℕ → List Link → Type 0
AreLinks file [] = Unit {0}
AreLinks file (link ∷ links) = (link.used ≡ used_of file link.page) × AreLinks file links

-- each lies on a page below the page count
abbrev pub AreBelow : ℕ → List Link → Type 0
AreBelow count [] = Unit {0}
AreBelow count (link ∷ links) = (link.page < count) × AreBelow count links

-- each lies there, and has no more used bytes than a page holds
abbrev pub all_fit : ℕ → List Link → Bool
all_fit count [] = true
all_fit count (link ∷ links) = (nat_lt link.page count && nat_lt link.used (MOST_USED + 1)) && all_fit count links

-- the used bytes of one of them end past this many bytes
abbrev pub EndsPast : ℕ → List Link → Type 0
EndsPast len [] = ⊥
EndsPast len (link ∷ links) = (len < PAGE_BYTES * link.page + LINK_BYTES + link.used) ⊎ EndsPast len links

-- the bytes of these pages, one after another
abbrev pub Gathers : List ℕ → List Link → List ℕ → Type 0
Gathers file [] bytes = bytes ≡ []
Gathers file (link ∷ links) bytes =
    (own : List ℕ) × (rest : List ℕ) × (bytes ≡ own ++ rest) × (length own ≡ link.used) × StandsAt file (PAGE_BYTES * link.page + LINK_BYTES) own × Gathers file links rest

-- a page's used bytes come behind others
abbrev pub AddsPiece : List ℕ → ℕ → ℕ → List ℕ → List ℕ → Type 0
AddsPiece file page used old new = (own : List ℕ) × (new ≡ old ++ own) × (length own ≡ used) × StandsAt file (PAGE_BYTES * page + LINK_BYTES) own

abbrev pub links_damage : List Link → Option ℕ → Option Damage
links_damage links stated =
    if list_any (λ link. nat_lt MOST_USED link.used) links then Some UsedBytes else length_damage (sum_by (λ link. link.used) links) stated

-- the same of a chain that was followed to this end
abbrev pub judged : List Link → Option Damage → Option ℕ → Option Damage
judged links (Some damage) stated = Some damage
judged links None stated = links_damage links stated
