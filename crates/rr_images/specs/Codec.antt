-- What this crate is generic in: worlds, how the line of a record changes one, and how a directory and its chains spell
-- one.
use Rattle.std.specs.Prelude.{◌≡◌, ℕ, List, [], ◌∷◌}

pub record Codec : Type 1 where
  pub World : Type 0
  -- a line is lawful in the old world and leads to the new one
  pub Takes : List ℕ → World → World → Type 0
  -- the first pages and the lengths of the chains that a directory of this version names
  pub Heads : ℕ → List ℕ → List (ℕ × ℕ) → Type 0
  -- the world that a directory of this version and the bytes of its chains spell
  pub Spells : ℕ → List ℕ → List (List ℕ) → World → Type 0

-- these lines lead from one world to another
abbrev pub Replays : (codec : Codec) → codec.World → List (List ℕ) → codec.World → Type 0
Replays codec old [] new = old ≡ new
Replays codec old (line ∷ lines) new =
    (then : codec.World) × codec.Takes line old then × Replays codec then lines new

-- A directory names one list of chains, and with them spells one world, and a line leads to one world.
pub record IsExact (codec : Codec) : Type 0 where
  pub heads : (version : ℕ) (directory : List ℕ) (first second : List (ℕ × ℕ))
      → codec.Heads version directory first → codec.Heads version directory second → first ≡ second
  pub spells : (version : ℕ) (directory : List ℕ) (texts : List (List ℕ)) (first second : codec.World)
      → codec.Spells version directory texts first → codec.Spells version directory texts second → first ≡ second
  pub takes : (line : List ℕ) (old first second : codec.World)
      → codec.Takes line old first → codec.Takes line old second → first ≡ second
