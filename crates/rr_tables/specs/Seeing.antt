-- Tables in memory as the rules see them: by states for which their positions stand, whatever their commands play.
use Rattle.std.specs.Prelude.{◌≡◌, ℕ, List, Option, None, Some, bytes_eq, option_map}
use Rattle.std.specs.Global.{Box}
use Rattle.indexmap.specs.IndexMap.{get}
use Rattle.rr_code.specs.declared.command.Command.{Command}
use Rattle.rr_code.specs.declared.command.Command.TheVariants.{Open}
use Rattle.rr_game.specs.declared.history.table.Table.{Table}
use Rattle.rr_game.specs.History.Seeing.{Heeds, IsSeenAs, MayRefuseBy, Seen, judgement_at, plain_judgement}
use Rattle.rr_kit.specs.declared.kit.Kit.{Kit}
use Rattle.rr_turns.specs.declared.request.Request.{Request}
use Rattle.rr_turns.specs.declared.request.Request.TheVariants.{Play}
use Rattle.rr_turns.specs.Judgement.{IsVerdict, Judgement, judgement_map, settled}
use Rattle.rr_tables.specs.declared.fault.Fault.{Fault}
use Rattle.rr_tables.specs.declared.fault.Fault.TheVariants.{File, Rules}
use Rattle.rr_tables.specs.declared.records.fault.Fault as rules
use Rattle.rr_tables.specs.declared.records.fault.Fault.TheVariants as R
use Rattle.rr_tables.specs.declared.tables.Tables.{Tables}
use Rattle.rr_tables.specs.Records.Fault.{of_table}
use Rattle.rr_tables.specs.Records.World.{TableState, opening_verdict}

-- as what the table of a name is seen, or that there is none
abbrev pub IsSeenAt : Tables → List ℕ → Option Seen → Type 0
IsSeenAt tables name None = get bytes_eq tables.map name ≡ None
IsSeenAt tables name (Some seen) = (table : Box Table) × (get bytes_eq tables.map name ≡ Some table) × IsSeenAs table.value seen

-- the judgement on a request by what its table is seen as, if there is one
abbrev pub step_judgement_at : Kit → Option Seen → ℕ → Request Command → Judgement rules.Fault
step_judgement_at kit None stamp request = settled (Some R.NoSuchTable)
step_judgement_at kit (Some seen) stamp request = judgement_map of_table (judgement_at kit seen stamp request)

-- and by the number of tables, where it opens one
abbrev pub world_judgement_at : Kit → Option Seen → ℕ → ℕ → Request Command → Judgement rules.Fault
world_judgement_at kit seen tables stamp (Play (Open players)) = settled (opening_verdict (option_map (λ (s : Seen). s.kept) seen) tables stamp)
world_judgement_at kit seen tables stamp request = step_judgement_at kit seen stamp request

-- why a request of this judgement isn't taken: by the rules, what its judge may find; by the file, although it is lawful
abbrev pub MayRefuseSeen : Judgement rules.Fault → Request Command → Fault → Type 0
MayRefuseSeen judgement request (Rules fault) = MayRefuseBy judgement R.OutOfMemory request fault
MayRefuseSeen judgement request (File fault) = IsVerdict judgement None

-- What the checks that look at no position say of a request: whether there is its table, the stamp, and room for a command; of
-- an opening all that there are. They come first, whatever the position is.
abbrev pub plain_step : Option TableState → ℕ → Request Command → Option rules.Fault
plain_step None stamp request = Some R.NoSuchTable
plain_step (Some t) stamp request = option_map of_table (plain_judgement t stamp request).first

abbrev pub plain_verdict : Option TableState → ℕ → ℕ → Request Command → Option rules.Fault
plain_verdict t tables stamp (Play (Open players)) = opening_verdict t tables stamp
plain_verdict t tables stamp request = plain_step t stamp request

-- why a request of which they say so much isn't taken: by the rules or by the file
abbrev pub HeedsIn : Option rules.Fault → Fault → Type 0
HeedsIn verdict (Rules fault) = Heeds verdict fault
HeedsIn verdict (File fault) = verdict ≡ None
