-- The tables of a store, from the requests that it accepted alone.
use Rattle.std.specs.Prelude.{◌≡◌, ℕ, ◌+◌, ◌==◌, not, nat_le, length, List, [], ◌∷◌, Option, None, Some, bytes_eq, map, if◌then◌else◌}
use Rattle.std.specs.Map.{lookup}
use Rattle.indexmap.specs.IndexMap.{insert_entry}
use Rattle.rr_kit.specs.declared.kit.Kit.{Kit}
use Rattle.rr_reading.specs.declared.dir.directory.TheConstants.{MOST_TABLES}
use Rattle.rr_code.specs.declared.command.Command.{Command}
use Rattle.rr_code.specs.declared.command.Command.TheVariants.{Open}
use Rattle.rr_code.specs.Request.{IsRequest}
use Rattle.rr_turns.specs.declared.request.Request.{Request}
use Rattle.rr_turns.specs.declared.request.Request.TheVariants.{Play}
use Rattle.rr_turns.specs.Judgement.{IsVerdict, Judgement, judgement_map, settled}
use Rattle.rr_turns.specs.Kept.{Kept, kept_after, nothing}
use Rattle.rr_game.specs.History.Playing.{ends_turn}
use Rattle.rr_game.specs.History.Verdict.{request_judgement}
use Rattle.rr_words.specs.Name.{IsTableName}
use Rattle.rr_tables.specs.declared.records.fault.Fault.{Fault}
use Rattle.rr_tables.specs.declared.records.fault.Fault.TheVariants as F
use Rattle.rr_tables.specs.Records.Fault.{of_table}

-- a table: the commands that it keeps, the least turn to which it can be taken back, and its stamp
abbrev pub TableState : Type 0
TableState = Kept Command

-- why an opening with this stamp is refused, if it is, by the table of that name and the number of tables
abbrev pub opening_verdict : Option TableState → ℕ → ℕ → Option Fault
opening_verdict (Some t) tables stamp = Some (F.StaleStamp t.stamp)
opening_verdict None tables stamp =
    if not (stamp == 0) then Some (F.StaleStamp 0)
    else if nat_le MOST_TABLES tables then Some F.TooManyTables
    else None

-- the judgement on a request, by the table of its name, which there may not be
abbrev pub step_judgement : Kit → Option TableState → ℕ → Request Command → Judgement Fault
step_judgement kit None stamp request = settled (Some F.NoSuchTable)
step_judgement kit (Some t) stamp request = judgement_map of_table (request_judgement kit t stamp request)

-- and by the number of tables, where it opens one
abbrev pub world_judgement : Kit → Option TableState → ℕ → ℕ → Request Command → Judgement Fault
world_judgement kit table tables stamp (Play (Open players)) = settled (opening_verdict table tables stamp)
world_judgement kit table tables stamp request = step_judgement kit table stamp request

-- the table after an accepted request, where there may have been none
abbrev pub state_after : Kit → Option TableState → Request Command → TableState
state_after kit None request = kept_after (ends_turn kit) nothing request
state_after kit (Some t) request = kept_after (ends_turn kit) t request

-- the tables of a file by their names, in the order of opening
abbrev pub World : Type 0
World = List (List ℕ × TableState)

-- the table of a name
abbrev pub table_named : World → List ℕ → Option TableState
table_named tables name = lookup (bytes_eq name) tables

-- the stamp of a table, 0 without one
abbrev pub present_stamp : Option TableState → ℕ
present_stamp None = 0
present_stamp (Some t) = t.stamp

-- the judgement on a request with this stamp at the table of this name
abbrev pub judgement_in : Kit → World → ℕ → List ℕ → Request Command → Judgement Fault
judgement_in kit tables stamp name request =
    world_judgement kit (table_named tables name) (length tables) stamp request

-- the tables after an accepted request: the table of this name has taken it, and one that it opened comes last
abbrev pub world_after : Kit → World → List ℕ → Request Command → World
world_after kit tables name request =
    insert_entry bytes_eq tables name (state_after kit (table_named tables name) request)

-- a request and the table that it is for
pub record TableRequest : Type 0 where
  pub name : List ℕ
  pub request : Request Command

abbrev pub for_table : List ℕ → Request Command → TableRequest
for_table table r = record { name = table; request = r }

-- its parts are what they stand for
abbrev pub IsOfForm : TableRequest → Type 0
IsOfForm r = IsTableName r.name × IsRequest r.request

-- a request is lawful at the present stamp of its table
abbrev pub IsLawfulIn : Kit → World → TableRequest → Type 0
IsLawfulIn kit tables r =
    IsOfForm r
    × IsVerdict (judgement_in kit tables (present_stamp (table_named tables r.name)) r.name r.request) None

-- these requests, each lawful in its turn, lead from one world to another
abbrev pub Follows : Kit → World → List TableRequest → World → Type 0
Follows kit old [] new = new ≡ old
Follows kit old (r ∷ rs) new = IsLawfulIn kit old r × Follows kit (world_after kit old r.name r.request) rs new

-- the names of the tables, in the order of opening
abbrev pub names : World → List (List ℕ)
names tables = map (λ t. t.0) tables

-- how many requests the tables have accepted: each raised the stamp of its table by one
abbrev pub requests_in : World → ℕ
requests_in [] = 0
requests_in (t ∷ ts) = t.1.stamp + requests_in ts
