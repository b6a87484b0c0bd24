-- What the law over schedules is generic in.
use Rattle.std.specs.Prelude.{◌≡◌, ℕ, List}

pub record Worlds : Type 1 where
  pub Command : Type 0
  pub World : Type 0
  -- a command is lawful in the old world and leads to the new one
  pub Leads : Command → World → World → Type 0
  -- what an opening judges a file by: it stands for this world
  pub Stands : List ℕ → World → Type 0
  -- what is kept of a file between two calls: it keeps this world
  pub Keeps : List ℕ → World → Type 0

-- What is kept stands, a command leads to one world, and none leads back to the world from which it leads.
pub record AreWorlds (worlds : Worlds) : Type 0 where
  pub stands : (image : List ℕ) (world : worlds.World) → worlds.Keeps image world → worlds.Stands image world
  pub one : (command : worlds.Command) (old first second : worlds.World)
      → worlds.Leads command old first → worlds.Leads command old second → first ≡ second
  pub moves : (command : worlds.Command) (world : worlds.World) → worlds.Leads command world world → ⊥
