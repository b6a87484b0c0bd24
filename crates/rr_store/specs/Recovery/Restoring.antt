-- The tables of a directory, put one behind another.
use Rattle.std.specs.Prelude.{◌≡◌, ◌<◌, ◌≤◌, [], ◌∷◌, ◌++◌, length, None}
use Rattle.rr_reading.specs.declared.dir.directory.TableEntry.{TableEntry}
use Rattle.rr_reading.specs.declared.dir.directory.TheConstants.{MOST_TABLES}
use Rattle.rr_turns.specs.declared.limits.TheConstants.{LAST_STAMP}
use Rattle.rr_tables.specs.Records.World.{TableState, World, table_named}

-- the entry may stand behind those of these tables
pub record IsFreeFor (tables : World) (entry : TableEntry) : Type 0 where
  pub room : length tables < MOST_TABLES
  pub own_name : table_named tables entry.name ≡ None
  pub stamp : entry.stamp ≤ LAST_STAMP

-- a table stands behind the others, under the name of this entry
pub record Puts (entry : TableEntry) (old : World) (state : TableState) (new : World) : Type 0 where
  pub last : new ≡ old ++ (entry.name, state) ∷ []
