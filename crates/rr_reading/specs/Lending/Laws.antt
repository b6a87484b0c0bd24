-- Laws over the definitions alone.
use Rattle.std.specs.Prelude.{◌≡◌, ◌≤◌, ℕ, Bool, List, [], ◌∷◌, length, Option}
use Rattle.rr_pages.specs.Pages.{IsIn, AllApart}
use Rattle.rr_pages.specs.Reading.{IsWhole}
use Rattle.rr_pages.specs.Sets.{IsMarked}
use Rattle.rr_reading.specs.Dir.Kept.{SpellsKept}
use Rattle.rr_reading.specs.Lending.Commands.{Begins, IsCut}

-- a chain is whole in one way
abbrev pub ChainsAreReadOnce : Type 0
ChainsAreReadOnce =
    (file : List ℕ) (count : ℕ) (reached after other : List Bool) (head : ℕ) (stated : Option ℕ) (pages others bytes more : List ℕ) → IsWhole file count reached head stated after pages bytes
    → IsWhole file count reached head stated other others more → (after ≡ other) × (pages ≡ others) × (bytes ≡ more)

-- no page comes twice in it, and none that was reached before
abbrev pub PagesComeOnce : Type 0
PagesComeOnce =
    (file : List ℕ) (count : ℕ) (reached after : List Bool) (head : ℕ) (stated : Option ℕ) (pages bytes : List ℕ) → count ≤ length reached → IsWhole file count reached head stated after pages bytes
    → AllApart pages × ((page : ℕ) → IsMarked reached page → IsIn page pages → ⊥)

-- commands that are lent one after another, up to the end, are those that the bytes spell; where these end within a
-- command, they spell none
pub record CommandsAreKept : Type 0 where
  pub none : SpellsKept [] []
  pub more : (bytes words rest : List ℕ) (commands : List (List ℕ)) → Begins bytes words rest → SpellsKept rest commands → SpellsKept bytes (words ∷ commands)
  pub cut : (bytes : List ℕ) (commands : List (List ℕ)) → IsCut bytes → SpellsKept bytes commands → ⊥
  pub behind : (bytes words rest : List ℕ) (commands : List (List ℕ)) → Begins bytes words rest → SpellsKept bytes (words ∷ commands) → SpellsKept rest commands
  pub first : (bytes words rest other : List ℕ) (commands : List (List ℕ)) → Begins bytes words rest → SpellsKept bytes (other ∷ commands) → words ≡ other
