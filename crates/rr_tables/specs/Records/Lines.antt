-- The request that a record's line spells, and the tables to which it leads.
use Rattle.std.specs.Prelude.{◌≡◌, ℕ, List, None}
use Rattle.rr_kit.specs.declared.kit.Kit.{Kit}
use Rattle.rr_code.specs.declared.command.Command.{Command}
use Rattle.rr_code.specs.Request.{SpellsRecord}
use Rattle.rr_turns.specs.declared.request.Request.{Request}
use Rattle.rr_turns.specs.Judgement.{IsVerdict, Judgement}
use Rattle.rr_tables.specs.declared.records.fault.Fault.{Fault}
use Rattle.rr_tables.specs.Records.World.{World, judgement_in, present_stamp, table_named, world_after}

-- a request is judged again with the present stamp of its table, since a record has none
abbrev pub record_judgement : Kit → World → List ℕ → Request Command → Judgement Fault
record_judgement kit tables name request = judgement_in kit tables (present_stamp (table_named tables name)) name request

-- the record's request is lawful, and its table takes it
pub record TakesRecord (kit : Kit) (old : World) (bytes : List ℕ) (new : World) : Type 0 where
  pub name : List ℕ
  pub request : Request Command
  pub spelled : SpellsRecord bytes name request
  pub lawful : IsVerdict (record_judgement kit old name request) None
  pub taken : new ≡ world_after kit old name request

-- the record has no lawful request
abbrev pub IsUnlawful : Kit → World → List ℕ → Type 0
IsUnlawful kit tables bytes =
    (name : List ℕ) (request : Request Command) → SpellsRecord bytes name request
    → ¬ IsVerdict (record_judgement kit tables name request) None
