-- Which pages are taken: sets of pages as lists of marks, one for each page number from 0 on.
use Rattle.std.specs.Prelude.{◌≡◌, ◌↔◌, ℕ, ◌<◌, ◌≤◌, ◌||◌, Bool, true, false, List, [], ◌∷◌, get_or, set, length, nat_lt}
use Rattle.rr_pages.specs.declared.page.TheConstants.{FIRST_DATA, MOST_PAGES}
use Rattle.rr_pages.specs.Pages.{IsIn, AllApart}

-- the set has this page
abbrev pub IsMarked : List Bool → ℕ → Type 0
IsMarked marks page = get_or marks page false ≡ true

abbrev pub IsEmpty : List Bool → Type 0
IsEmpty marks = (page : ℕ) → get_or marks page false ≡ false

-- the set with one page more, and with several
abbrev pub marked : List Bool → ℕ → List Bool
marked marks page = set marks page true

abbrev pub all_marked : List Bool → List ℕ → List Bool
all_marked marks [] = marks
all_marked marks (page ∷ pages) = all_marked (marked marks page) pages

-- the set has these pages, and no others
abbrev pub Has : List Bool → List ℕ → Type 0
Has marks pages = (page : ℕ) → IsMarked marks page ↔ IsIn page pages

-- a data page that neither the present root reaches nor the coming one will reach
pub record IsFree (present coming : List Bool) (page : ℕ) : Type 0 where
  pub data_page : FIRST_DATA ≤ page
  pub under : page < MOST_PAGES
  pub not_present : get_or present page false ≡ false
  pub not_coming : get_or coming page false ≡ false

-- it is free, and no page before it is
pub record IsFirstFree (present coming : List Bool) (page : ℕ) : Type 0 where
  pub free : IsFree present coming page
  pub first : (other : ℕ) → other < page → IsFree present coming other → ⊥

abbrev pub NoneFree : List Bool → List Bool → Type 0
NoneFree present coming = (page : ℕ) → IsFree present coming page → ⊥

-- a set that has what isn't free: the pages of the roots and of the journal, and those that either root reaches
pub record HasTaken (present coming taken : List Bool) : Type 0 where
  pub whole : length taken ≡ MOST_PAGES
  pub marks : (page : ℕ) → get_or taken page false ≡ (nat_lt page FIRST_DATA || (get_or present page false || get_or coming page false))

-- these pages are taken one after another, each as the first one that is free
abbrev pub TakesFree : List Bool → List Bool → List ℕ → List Bool → Type 0
TakesFree present coming [] after = after ≡ coming
TakesFree present coming (page ∷ pages) after = IsFirstFree present coming page × TakesFree present (marked coming page) pages after

-- fewer pages are free than are needed: once all free ones are taken one after another, they are fewer
pub record TooFewFree (present coming : List Bool) (needed : ℕ) : Type 0 where
  pub all : List ℕ
  pub after : List Bool
  pub taken : TakesFree present coming all after
  pub none_left : NoneFree present after
  pub fewer : length all < needed

-- pages that were taken for a checkpoint: data pages that the present root doesn't reach, and no two the same
pub record AreFree (reached pages : List ℕ) : Type 0 where
  pub data_pages : (page : ℕ) → IsIn page pages → (FIRST_DATA ≤ page) × (page < MOST_PAGES)
  pub unreached : (page : ℕ) → IsIn page pages → IsIn page reached → ⊥
  pub apart : AllApart pages
