-- What following a chain answers.
use Rattle.std.specs.Prelude.{◌≡◌, ℕ, Bool, List, Option, None, Some, Result, Ok, Err}
use Rattle.rr_pages.specs.declared.fault.Fault.{Fault}
use Rattle.rr_pages.specs.declared.fault.Damage.{Damage}
use Rattle.rr_pages.specs.declared.fault.Fault.TheVariants.{FileFull, HalfFull, Damaged, NotAStore, Disk, OutOfMemory}
use Rattle.rr_pages.specs.declared.reading.FollowedChain.{FollowedChain}
use Rattle.rr_pages.specs.declared.reading.Link.{Link}
use Rattle.rr_pages.specs.Chains.{Chain}
use Rattle.rr_pages.specs.Links.{pages_of, AreLinks}
use Rattle.rr_pages.specs.Pages.{IsData}
use Rattle.rr_pages.specs.Sets.{IsMarked, all_marked}
use Rattle.rr_pages.specs.Walk.{Walk, damage_of}

-- A chain that was followed over these pages breaks no clause; it has these bytes, and all its pages are reached now.
pub record IsWhole (file : List ℕ) (count : ℕ) (reached : List Bool) (head : ℕ) (stated : Option ℕ) (after : List Bool) (pages bytes : List ℕ) : Type 0 where
  pub walk : Walk file count reached head pages None
  pub unbroken : damage_of file pages None stated ≡ None
  pub chain : Chain file head pages bytes
  pub marks : after ≡ all_marked reached pages

-- it was followed as far as it goes, and this is the first clause that it breaks
pub record IsBroken (file : List ℕ) (count : ℕ) (reached : List Bool) (head : ℕ) (stated : Option ℕ) (after : List Bool) (damage : Damage) : Type 0 where
  pub pages : List ℕ
  pub end : Option Damage
  pub walk : Walk file count reached head pages end
  pub broken : damage_of file pages end stated ≡ Some damage
  pub marks : after ≡ all_marked reached pages

-- the page that a chain begins with is a data page, and wasn't reached before
abbrev pub BeginsAnew : ℕ → List Bool → ℕ → Type 0
BeginsAnew count reached head = IsData count head × (IsMarked reached head → ⊥)

-- it was followed over these links to its end, and breaks no clause
pub record IsUnbroken (file : List ℕ) (count : ℕ) (reached : List Bool) (head : ℕ) (stated : Option ℕ) (after : List Bool) (links : List Link) : Type 0 where
  pub walk : Walk file count reached head (pages_of links) None
  pub unbroken : damage_of file (pages_of links) None stated ≡ None
  pub used : AreLinks file links
  pub marks : after ≡ all_marked reached (pages_of links)

-- what following a chain answers; memory is wanted only for one that has a page
abbrev pub Follows : List ℕ → ℕ → List Bool → ℕ → Option ℕ → List Bool → Result FollowedChain Fault → Type 0
Follows file count reached head stated after (Ok chain) = IsUnbroken file count reached head stated after chain.links.items
Follows file count reached head stated after (Err FileFull) = ⊥
Follows file count reached head stated after (Err HalfFull) = ⊥
Follows file count reached head stated after (Err (Damaged damage)) = IsBroken file count reached head stated after damage
Follows file count reached head stated after (Err NotAStore) = ⊥
Follows file count reached head stated after (Err (Disk fault)) = Unit {0}
Follows file count reached head stated after (Err OutOfMemory) = BeginsAnew count reached head
