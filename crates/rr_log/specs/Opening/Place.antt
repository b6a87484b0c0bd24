-- Where the next record goes, by what is read of both halves.
use Rattle.std.specs.Prelude.{◌≡◌, ℕ, ◌+◌, List, [], ◌∷◌, length, Option, None, Some}
use Rattle.rr_checkpoint.specs.declared.place.Place.{Place}
use Rattle.rr_images.specs.Steps.{read_half, read_lines}
use Rattle.rr_pages.specs.Journal.Run.{slots_of}
use Rattle.rr_pages.specs.declared.root.Root.{Root}

-- records in the half that the root doesn't name tell that a checkpoint is begun: the number of the first of them
abbrev pub begun_at : ℕ → List (List ℕ) → Option ℕ
begun_at number [] = None
begun_at number (line ∷ lines) = Some number

-- The next record goes behind the far ones, where there are some, and else behind the near ones. It is numbered on.
pub record GoesBehind (root : Root) (near far : List (List ℕ)) (place : Place) : Type 0 where
  pub index : place.half.index ≡ read_half root.half far
  pub slot : place.half.next_slot ≡ slots_of (read_lines near far)
  pub number : place.number ≡ root.first + length near + length far
  pub begun : place.begun ≡ begun_at (root.first + length near) far
