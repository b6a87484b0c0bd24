-- How the chains that a directory names are followed, one after another, and what of them is read.
use Rattle.std.specs.Prelude.{◌≡◌, ◌≢◌, ◌⊎◌, ℕ, ◌<◌, nat_lt, if◌then◌else◌, Bool, true, List, [], ◌∷◌, length, map, fold, sum_by, Option, None, Some}
use Rattle.rr_pages.specs.declared.page.TheConstants.{MOST_USED}
use Rattle.rr_reading.specs.declared.dir.directory.TableEntry.{TableEntry}
use Rattle.rr_reading.specs.Dir.Kept.{SpellsKept}
use Rattle.rr_images.specs.Following.{AllRead}
use Rattle.rr_images.specs.Holding.{HeldChain}
use Rattle.rr_pages.specs.declared.fault.Damage.{Damage}
use Rattle.rr_pages.specs.declared.fault.Damage.TheVariants.{PageOutside, PageTwice}
use Rattle.rr_pages.specs.declared.reading.FollowedChain.{FollowedChain}
use Rattle.rr_pages.specs.declared.reading.ReadChain.{ReadChain}
use Rattle.rr_pages.specs.Chains.{used_of}
use Rattle.rr_pages.specs.Faults.{clause_of}
use Rattle.rr_pages.specs.Links.{all_fit, pages_of}
use Rattle.rr_pages.specs.Reading.{IsWhole, IsBroken}
use Rattle.rr_pages.specs.Sets.{all_marked}
use Rattle.rr_pages.specs.Walk.{Walk, damage_of}
use Rattle.rr_reading.specs.Lending.Pages.{joined}
use Rattle.rr_reading.specs.declared.chains.Followed.{Followed}
use Rattle.rr_reading.specs.declared.chains.Followed.TheVariants.{Whole, Broken}

-- a chain that was read
abbrev pub held : ReadChain → HeldChain
held chain = record { pages = chain.pages.items; text = chain.bytes.items }

-- a chain that was followed: its bytes are those of its pages in the file
abbrev pub held_in : List ℕ → FollowedChain → HeldChain
held_in file chain = record { pages = pages_of chain.links.items; text = joined file chain.links.items }

abbrev pub all_held_in : List ℕ → List FollowedChain → List HeldChain
all_held_in file chains = map (held_in file) chains

-- a chain that can be found: its pages, as far as it can be followed; why it breaks off, where it does; and the length
-- that is stated for it, where one is
pub record FoundChain : Type 0 where
  pub pages : List ℕ
  pub end : Option Damage
  pub stated : Option ℕ

-- The chains of these heads and lengths are followed one after another, each as far as it goes. A page that one of them
-- reached is reached twice by a later one that comes to it.
abbrev pub AllFollowed : List ℕ → ℕ → List Bool → List (ℕ × ℕ) → List Bool → List FoundChain → Type 0
AllFollowed file count before [] after found = (after ≡ before) × (found ≡ [])
AllFollowed file count before (head ∷ heads) after found =
    (chain : FoundChain) × (others : List FoundChain) × (found ≡ chain ∷ others) × (chain.stated ≡ Some head.1)
    × Walk file count before head.0 chain.pages chain.end
    × AllFollowed file count (all_marked before chain.pages) heads after others

-- one of them has this
abbrev pub HasOne : {T : Type 0} → (T → Type 0) → List T → Type 0
HasOne P [] = ⊥
HasOne P (x ∷ xs) = P x ⊎ HasOne P xs

-- it comes to a page number before those of data, or not under the page count
abbrev pub LeadsOutside : FoundChain → Type 0
LeadsOutside chain = chain.end ≡ Some PageOutside

-- it comes to a page that was reached before
abbrev pub ReachesTwice : FoundChain → Type 0
ReachesTwice chain = chain.end ≡ Some PageTwice

-- a page of it has more used bytes than it holds
abbrev pub IsOverfull : List ℕ → FoundChain → Type 0
IsOverfull file chain = HasOne (λ page. MOST_USED < used_of file page) chain.pages

-- it doesn't break off, and its pages have another number of bytes than is stated
pub record HasOtherLength (file : List ℕ) (chain : FoundChain) : Type 0 where
  pub whole : chain.end ≡ None
  pub said : ℕ
  pub stated : chain.stated ≡ Some said
  pub other : sum_by (used_of file) chain.pages ≢ said

-- the least clause that a chain breaks, if it breaks one
abbrev pub damage_in : List ℕ → FoundChain → Option Damage
damage_in file chain = damage_of file chain.pages chain.end chain.stated

-- the one of the lower clause
abbrev pub lower : Damage → Damage → Damage
lower least damage = if nat_lt (clause_of damage) (clause_of least) then damage else least

abbrev pub lower_of : Option Damage → Option Damage → Option Damage
lower_of None told = told
lower_of (Some least) None = Some least
lower_of (Some least) (Some damage) = Some (lower least damage)

-- the least clause that these chains break
abbrev pub least_in : List ℕ → List FoundChain → Option Damage
least_in file found = fold (λ least chain. lower_of least (damage_in file chain)) None found

-- what following a chain found
abbrev pub IsFollowed : List ℕ → ℕ → List Bool → ℕ × ℕ → List Bool → Followed → Type 0
IsFollowed file count before head after (Whole chain) =
    IsWhole file count before head.0 (Some head.1) after (pages_of chain.links.items) (joined file chain.links.items)
IsFollowed file count before head after (Broken damage) =
    IsBroken file count before head.0 (Some head.1) after damage

-- a chain that is whole lies within the file, by this page count
abbrev pub IsFit : ℕ → Followed → Type 0
IsFit count (Whole chain) = all_fit count chain.links.items ≡ true
IsFit count (Broken damage) = Unit {0}

abbrev pub damage_told : Followed → Option Damage
damage_told (Whole chain) = None
damage_told (Broken damage) = Some damage

abbrev pub whole_of : Followed → List FollowedChain
whole_of (Whole chain) = chain ∷ []
whole_of (Broken damage) = []

-- The chains of these heads were followed, and this is the least clause that they break. Where they break none, all of
-- them were read.
pub record AreRead (file : List ℕ) (count : ℕ) (before : List Bool) (heads : List (ℕ × ℕ)) (after : List Bool)
    (least : Option Damage) (chains : List HeldChain) : Type 0 where
  pub found : List FoundChain
  pub followed : AllFollowed file count before heads after found
  pub is_least : least ≡ least_in file found
  pub whole : least ≡ None → AllRead file count before heads after chains

-- they break a clause, and this is the least one
pub record AreBroken (file : List ℕ) (count : ℕ) (before : List Bool) (heads : List (ℕ × ℕ))
    (damage : Damage) : Type 0 where
  pub after : List Bool
  pub found : List FoundChain
  pub followed : AllFollowed file count before heads after found
  pub is_least : least_in file found ≡ Some damage

-- the bytes of a chain are those of so many commands, one after another, and nothing else
abbrev pub HoldsCommands : List ℕ → ℕ → Type 0
HoldsCommands bytes count = (commands : List (List ℕ)) × SpellsKept bytes commands × (length commands ≡ count)

-- each table's chain, of which come first as many as there are entries, holds as many as its entry says
abbrev pub AreOfForm : List TableEntry → List HeldChain → Type 0
AreOfForm [] chains = Unit {0}
AreOfForm (entry ∷ entries) [] = ⊥
AreOfForm (entry ∷ entries) (chain ∷ chains) = HoldsCommands chain.text entry.kept × AreOfForm entries chains
