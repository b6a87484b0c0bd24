-- A change of a table in memory.
use Rattle.std.specs.Prelude.{◌≡◌, Option, None, Some}
use Rattle.std.specs.Global.{Box}
use Rattle.rr_code.specs.declared.command.Command.{Command}
use Rattle.rr_game.specs.declared.history.change.Change.{Change}
use Rattle.rr_game.specs.declared.history.table.Table.{Table}
use Rattle.rr_game.specs.History.Changing.{Fits, IsChangeBy, kept_with}
use Rattle.rr_game.specs.History.Tables.{HasItsSnapshots, HasRoomFor, IsPlayed, ShowsBy, kept_in}
use Rattle.rr_kit.specs.declared.kit.Kit.{Kit}
use Rattle.rr_turns.specs.declared.request.Request.{Request}
use Rattle.rr_tables.specs.Taking.{plays_of}
use Rattle.rr_tables.specs.Writable.{IsWritable}

-- the change can be made, and a checkpoint can write what the table then keeps; it drops and adds the snapshots that this
-- request does; where the table was played, the change is what the request makes of it; and where it has its snapshots,
-- too, so many commands were played to work that out
pub record IsWritableChange (kit : Kit) (table : Table) (request : Request Command) (change : Change) : Type 0 where
  pub by : IsPlayed kit table → IsChangeBy kit (kept_in table) request change
  pub fits : Fits (kept_in table) change
  pub writable : IsWritable (kept_with (kept_in table) change)
  pub shows : ShowsBy table request change
  pub counted : IsPlayed kit table → HasItsSnapshots table → change.plays ≡ plays_of kit (Some (kept_in table)) request

-- there is a table, and the change is such a change of it
abbrev pub IsChangeOf : Kit → Option (Box Table) → Request Command → Change → Type 0
IsChangeOf kit None request change = ⊥
IsChangeOf kit (Some table) request change = IsWritableChange kit table.value request change

-- there is a table, and room in it for what the change adds
abbrev pub HasRoomIn : Option (Box Table) → Change → Type 0
HasRoomIn None change = ⊥
HasRoomIn (Some table) change = HasRoomFor table.value change
