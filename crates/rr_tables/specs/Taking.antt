-- What comes of a request to tables.
use Rattle.std.specs.Prelude.{◌≡◌, ℕ, ◌-◌, List, Option, None, Some, Result, Ok, Err, max}
use Rattle.rr_log.specs.declared.fault.Fault as file
use Rattle.rr_tables.specs.declared.records.fault.Fault as rules
use Rattle.rr_tables.specs.declared.records.fault.Fault.TheVariants as R
use Rattle.rr_code.specs.declared.command.Command.{Command}
use Rattle.rr_game.specs.History.Playing.{ends_turn}
use Rattle.rr_game.specs.History.Snapshots.{least_named}
use Rattle.rr_kit.specs.declared.kit.Kit.{Kit}
use Rattle.rr_log.specs.Lent.{Lent}
use Rattle.rr_turns.specs.Ends.{kept_at, turn_ends}
use Rattle.rr_turns.specs.Judgement.{IsVerdict, Judgement, MayFind}
use Rattle.rr_turns.specs.declared.request.Request.{Request}
use Rattle.rr_turns.specs.declared.request.Request.TheVariants.{Play, Back, Forget}
use Rattle.rr_tables.specs.Records.World.{TableState}
use Rattle.rr_tables.specs.declared.fault.Fault.{Fault}
use Rattle.rr_tables.specs.declared.fault.Fault.TheVariants.{File, Rules}

-- why a request of this judgement isn't taken: by the rules, what its judge may find; by the file, although it is lawful
abbrev pub MayRefuse : Judgement rules.Fault → Fault → Type 0
MayRefuse judgement (Rules fault) = MayFind judgement R.OutOfMemory fault
MayRefuse judgement (File fault) = IsVerdict judgement None

-- What became of a journal in a call that has a record kept: the keeping ended as the call did. It wasn't asked where the
-- rules refuse.
abbrev pub Passed : {J A : Type 0} → (J → Lent → List ℕ → Result (Unit {0}) file.Fault → J → Type 0) → J → Lent → List ℕ → J
    → Result A Fault → Type 0
Passed Keeps old lent bytes new (Ok taken) = Keeps old lent bytes (Ok tt) new
Passed Keeps old lent bytes new (Err (File fault)) = Keeps old lent bytes (Err fault) new
Passed Keeps old lent bytes new (Err (Rules fault)) = new ≡ old

-- how many commands are played to the game of the first so many of a table that has its snapshots: those behind the nearest
-- one, whose count is the greatest multiple of their spacing that isn't above; or behind the opening, where that is 0
abbrev pub plays_to : ℕ → ℕ
plays_to count = count - max 1 (least_named count)

-- how many are played to work out what a request makes of such a table, or of none: an opening is no play, another command is
-- one, a take-back plays to the end of its turn, and nothing is played to forget
abbrev pub plays_of : Kit → Option TableState → Request Command → ℕ
plays_of kit None request = 0
plays_of kit (Some table) (Play command) = 1
plays_of kit (Some table) (Back k) = plays_to (kept_at (turn_ends (ends_turn kit) table.commands) k)
plays_of kit (Some table) (Forget k) = 0
