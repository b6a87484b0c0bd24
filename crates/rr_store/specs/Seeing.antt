-- How the rules judge a request by the position in memory: whatever book that stands for, and whatever the commands play.
use Rattle.std.specs.Prelude.{◌≡◌, ℕ, List, Option, None, Result, Ok, Err, length, option_map}
use Rattle.rr_code.specs.declared.command.Command.{Command}
pub use Rattle.rr_game.specs.History.Seeing.{Heeds, IsSeenAs, MayRefuseBy, Seen, seen_of}
use Rattle.rr_kit.specs.declared.kit.Kit.{Kit}
use Rattle.rr_tables.specs.Seeing.{world_judgement_at}
use Rattle.rr_tables.specs.Seeing as ruled
use Rattle.rr_turns.specs.declared.request.Request.{Request}
use Rattle.rr_turns.specs.Judgement.{IsVerdict, Judgement, judgement_map}
use Rattle.rr_store.specs.declared.fault.Fault.{Fault}
use Rattle.rr_store.specs.declared.fault.Fault.TheVariants as F
use Rattle.rr_store.specs.declared.store.Store.{Store}
use Rattle.rr_store.specs.Fault.{of_rules}
use Rattle.rr_store.specs.World.{World, table_named}

-- as what the table of a name is seen in memory, or that there is none
abbrev pub IsSeenAt : {D : Type 0} → Store D → List ℕ → Option Seen → Type 0
IsSeenAt store name seen = ruled.IsSeenAt store.tables name seen

-- the judgement on a request with this stamp, among so many tables
abbrev pub judgement_at : Kit → Option Seen → ℕ → ℕ → Request Command → Judgement Fault
judgement_at kit seen tables stamp request = judgement_map of_rules (world_judgement_at kit seen tables stamp request)

-- the result is as this judgement says: no rule refuses a request that was taken, or that only the file kept from it; else what
-- its judge may find refuses it. A store that is broken judges nothing
abbrev pub IsJudgedBy : Judgement Fault → Request Command → Result ℕ Fault → Type 0
IsJudgedBy judgement request (Ok stamp) = IsVerdict judgement None
IsJudgedBy judgement request (Err F.DeviceFailed) = IsVerdict judgement None
IsJudgedBy judgement request (Err F.FileFull) = IsVerdict judgement None
IsJudgedBy judgement request (Err F.OpenAgain) = Unit {0}
IsJudgedBy judgement request (Err fault) = MayRefuseBy judgement F.OutOfMemory request fault

-- what the checks that look at no position say of a request: 68, 52, 54, and of an opening 66
abbrev pub plain_verdict : World → ℕ → List ℕ → Request Command → Option Fault
plain_verdict world stamp name request = option_map of_rules (ruled.plain_verdict (table_named world name) (length world) stamp request)

-- they are told before all others, but by a store that is broken
abbrev pub IsToldPlainly : Option Fault → Result ℕ Fault → Type 0
IsToldPlainly verdict (Ok stamp) = verdict ≡ None
IsToldPlainly verdict (Err F.OpenAgain) = Unit {0}
IsToldPlainly verdict (Err fault) = Heeds verdict fault
