-- Which edges are one hexside.
use Rattle.std.specs.Prelude.{◌≡◌, ℕ, ◌+◌, ◌%◌, ◌<◌, ◌⊎◌, ◌↔◌, true}
use Rattle.rr_kit.specs.declared.board.hex.Place.{Place}
use Rattle.rr_network.specs.declared.node.Hexside.{Hexside}
use Rattle.rr_network.specs.Node.{across, hexside_at, same_hexside}

-- an edge faces the one three further on, of the hex across it
pub record Faces (place : Place) (edge : ℕ) (other : Place) (facing : ℕ) : Type 0 where
  pub column : other.q ≡ (across place edge).q
  pub row : other.r ≡ (across place edge).r
  pub three_on : facing ≡ (edge + 3) % 6

-- they are the same edge of the same hex
abbrev pub AreOne : Place → ℕ → Place → ℕ → Type 0
AreOne place edge other facing = (place ≡ other) × (edge ≡ facing)

-- two edges share a hexside exactly where they are one edge or face each other
abbrev pub ShareHexsides : Type 0
ShareHexsides = (place other : Place) (edge facing : ℕ) → edge < 6 → facing < 6
    → (hexside_at place edge ≡ hexside_at other facing) ↔ (AreOne place edge other facing ⊎ Faces place edge other facing)

-- an edge that faces another is faced by it
abbrev pub FaceEachOther : Type 0
FaceEachOther = (place other : Place) (edge facing : ℕ) → edge < 6 → Faces place edge other facing → Faces other facing place edge

-- the test for one hexside tells just that
abbrev pub IsTestOfHexsides : Type 0
IsTestOfHexsides = (side other : Hexside) → (same_hexside side other ≡ true) ↔ (side ≡ other)
