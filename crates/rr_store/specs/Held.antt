-- What a store holds, and what comes of a request.
use Rattle.std.specs.Prelude.{◌≡◌, ℕ, Bool, true, false, List, None, Some, Result, Ok, Err}
use Rattle.rr_kit.specs.declared.kit.Kit.{Kit}
use Rattle.rr_code.specs.declared.command.Command.{Command}
use Rattle.rr_turns.specs.declared.request.Request.{Request}
use Rattle.rr_turns.specs.Judgement.{IsVerdict}
use Rattle.rr_store.specs.declared.fault.Fault.{Fault}
use Rattle.rr_store.specs.declared.fault.Fault.TheVariants as F
use Rattle.rr_store.specs.World.{World, judgement_in, state_after, table_named, world_after}

-- what a store holds: the kit, the tables, and whether the device failed since the file was opened
pub record Held : Type 0 where
  pub kit : Kit
  pub tables : World
  pub broken : Bool

abbrev pub with_tables : Held → World → Held
with_tables held tables = record { kit = held.kit; tables = tables; broken = held.broken }

abbrev pub with_failure : Held → Held
with_failure held = record { kit = held.kit; tables = held.tables; broken = true }

-- the new stamp of a table that has taken a request
abbrev pub stamp_after : Kit → World → List ℕ → Request Command → ℕ
stamp_after kit tables name request = (state_after kit (table_named tables name) request).stamp

-- what comes of a request with this stamp: its table's new stamp, or why it is refused
pub data Takes (old : Held) (stamp : ℕ) (name : List ℕ) (request : Request Command) (new : Held) : Result ℕ Fault → Type 0 where
  -- no rule refuses it, and the table has taken it
  Accepted : old.broken ≡ false → IsVerdict (judgement_in old.kit old.tables stamp name request) None
      → new ≡ with_tables old (world_after old.kit old.tables name request)
      → Takes old stamp name request new (Ok (stamp_after old.kit old.tables name request))
  -- the first rule that it breaks refuses it
  Refused : (fault : Fault) → old.broken ≡ false → IsVerdict (judgement_in old.kit old.tables stamp name request) (Some fault)
      → new ≡ old → Takes old stamp name request new (Err fault)
  -- no rule that takes no memory to judge refuses it, but memory is wanted
  Wants : old.broken ≡ false → (judgement_in old.kit old.tables stamp name request).first ≡ None
      → new ≡ old → Takes old stamp name request new (Err F.OutOfMemory)
  -- no rule refuses it, but there is no room for it in the file, or a number would be past the last
  NoRoom : old.broken ≡ false → IsVerdict (judgement_in old.kit old.tables stamp name request) None
      → new ≡ old → Takes old stamp name request new (Err F.FileFull)
  -- no rule refuses it, but the device failed
  Fails : old.broken ≡ false → IsVerdict (judgement_in old.kit old.tables stamp name request) None
      → new ≡ with_failure old → Takes old stamp name request new (Err F.DeviceFailed)
  -- the device failed before
  Again : old.broken ≡ true → new ≡ old → Takes old stamp name request new (Err F.OpenAgain)

-- why a store gives no table of this name
abbrev pub LacksTable : Held → List ℕ → Fault → Type 0
LacksTable held name F.OpenAgain = held.broken ≡ true
LacksTable held name F.NoSuchTable = (held.broken ≡ false) × (table_named held.tables name ≡ None)
LacksTable held name _ = ⊥
