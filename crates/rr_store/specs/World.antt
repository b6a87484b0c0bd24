-- The tables of a store, from the requests that it accepted alone, and the judgement on a request.
use Rattle.std.specs.Prelude.{ℕ, List, Option, None, Some}
use Rattle.rr_code.specs.declared.command.Command.{Command}
use Rattle.rr_kit.specs.declared.kit.Kit.{Kit}
pub use Rattle.rr_tables.specs.Records.World.{Follows, IsLawfulIn, IsOfForm, TableRequest, TableState, World, for_table, names, present_stamp, requests_in, state_after, table_named, world_after}
use Rattle.rr_tables.specs.Records.World as rules
use Rattle.rr_turns.specs.declared.request.Request.{Request}
use Rattle.rr_turns.specs.Judgement.{Judgement, judgement_map}
use Rattle.rr_store.specs.declared.fault.Fault.{Fault}
use Rattle.rr_store.specs.Fault.{of_rules}

-- the judgement on a request with this stamp at the table of this name
abbrev pub judgement_in : Kit → World → ℕ → List ℕ → Request Command → Judgement Fault
judgement_in kit tables stamp name request = judgement_map of_rules (rules.judgement_in kit tables stamp name request)

-- the tables with a request that may be pending
abbrev pub with_pending : Kit → World → Option TableRequest → World
with_pending kit tables None = tables
with_pending kit tables (Some r) = world_after kit tables r.name r.request
