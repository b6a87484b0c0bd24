-- The laws of chains, roots and free pages.
use Rattle.std.specs.Prelude.{◌≡◌, ℕ, ◌+◌, ◌≤◌, Bool, List, ◌++◌, length, None, Some}
use Rattle.rr_pages.specs.declared.page.TheConstants.{MOST_PAGES}
use Rattle.rr_pages.specs.declared.root.Root.{Root}
use Rattle.rr_pages.specs.declared.fault.Damage.{Damage}
use Rattle.rr_pages.specs.Pages.{StandsAt, IsIn, AllApart, AreData}
use Rattle.rr_pages.specs.Chains.{Chain}
use Rattle.rr_pages.specs.Laying.{head_of, laid, joined, FitPages, AllStand}
use Rattle.rr_pages.specs.Sets.{Has, TakesFree, AreFree}
use Rattle.rr_pages.specs.Walk.{Walk, damage_of}
use Rattle.rr_pages.specs.Reading.{IsBroken}
use Rattle.rr_pages.specs.Roots.{root_gate, root_bytes, FitsFields, HasFields, Stale, IsTaken}
use Rattle.rr_pages.specs.Choosing.{IsNoStore, HasBadField}

abbrev pub LaidAreChain : Type 0
LaidAreChain =
    (file pages : List ℕ) (pieces : List (List ℕ)) → FitPages pages pieces → AllStand file (laid pages pieces) → Chain file (head_of pages) pages (joined pieces)

abbrev pub RootsReadBack : Type 0
RootsReadBack =
    (file : List ℕ) (side : Bool) (root : Root) → FitsFields root → StandsAt file (root_gate side + 1) (root_bytes root) → HasFields file side root

abbrev pub OneTaken : Type 0
OneTaken =
    (file : List ℕ) (side other : Bool) (a b : Root) (of_a of_b : Stale) → IsTaken file side a of_a → IsTaken file other b of_b → (side ≡ other) × (a ≡ b)

abbrev pub NoStoreTaken : Type 0
NoStoreTaken = (file : List ℕ) (side : Bool) (root : Root) (stale : Stale) → IsTaken file side root stale → IsNoStore file → ⊥

abbrev pub NoBadTaken : Type 0
NoBadTaken = (file : List ℕ) (side : Bool) (root : Root) (stale : Stale) → IsTaken file side root stale → HasBadField file → ⊥

-- beside pages that the coming root keeps
abbrev pub TakenAreFree : Type 0
TakenAreFree =
    (present coming after : List Bool) (reached kept pages : List ℕ) → length coming ≡ MOST_PAGES → Has present reached → Has coming kept → TakesFree present coming pages after
    → AreFree reached pages × Has after (kept ++ pages)

-- a chain on data pages that weren't reached before and are all apart
pub record IsFresh (file : List ℕ) (count : ℕ) (reached : List Bool) (head : ℕ) (pages bytes : List ℕ) : Type 0 where
  pub low : count ≤ MOST_PAGES
  pub marks : length reached ≡ MOST_PAGES
  pub before : List ℕ
  pub has : Has reached before
  pub data_pages : AreData count pages
  pub apart : AllApart pages
  pub unreached : (page : ℕ) → IsIn page pages → IsIn page before → ⊥
  pub chain : Chain file head pages bytes

abbrev pub StandingRead : Type 0
StandingRead =
    (file : List ℕ) (count : ℕ) (reached : List Bool) (head : ℕ) (pages bytes : List ℕ) → IsFresh file count reached head pages bytes
    → Walk file count reached head pages None × (damage_of file pages None (Some (length bytes)) ≡ None)

abbrev pub BrokenNone : Type 0
BrokenNone =
    (file : List ℕ) (count : ℕ) (reached after : List Bool) (head : ℕ) (pages bytes : List ℕ) (damage : Damage) → IsFresh file count reached head pages bytes
    → IsBroken file count reached head (Some (length bytes)) after damage → ⊥
