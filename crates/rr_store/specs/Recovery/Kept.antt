-- What the chain of a table tells of its kept commands.
use Rattle.std.specs.Prelude.{◌≡◌, ℕ, ◌<◌, List, [], ◌∷◌, All, length}
use Rattle.rr_code.specs.Command.{SpellsCommand}
use Rattle.rr_code.specs.declared.command.Command.{Command}
use Rattle.rr_code.specs.declared.command.Command.TheVariants.{Open}
use Rattle.rr_reading.specs.Dir.Kept.{IsShort, SpellsKept}
use Rattle.rr_reading.specs.declared.dir.directory.TheConstants.{MOST_KEPT}
use Rattle.rr_game.specs.declared.history.table.Table.{Table}
use Rattle.rr_game.specs.History.Playing.{IsLawfulAfter, ends_turn}
use Rattle.rr_game.specs.History.Tables.{HasItsSnapshots, IsPlayed, kept_in}
use Rattle.rr_kit.specs.declared.kit.Kit.{Kit}
use Rattle.rr_tables.specs.Records.Words.{SpellCommands}
use Rattle.rr_turns.specs.declared.limits.TheConstants.{LAST_STAMP}
use Rattle.rr_turns.specs.declared.request.Request.TheVariants.{Play}
use Rattle.rr_turns.specs.Kept.{kept_after}

-- the bytes of a chain are so many kept commands, whose words spell these
pub record HoldsCommands (bytes : List ℕ) (count : ℕ) (commands : List Command) : Type 0 where
  pub words : List (List ℕ)
  pub kept : SpellsKept bytes words
  pub counted : length words ≡ count
  pub spelled : SpellCommands words commands

-- words that spell no opening of a table
abbrev pub SpellsNoOpening : List ℕ → Type 0
SpellsNoOpening words = (players : List (List ℕ)) → SpellsCommand words (Open players) → ⊥

-- words that spell no command which is lawful after these
abbrev pub IsUnlawfulAfter : Kit → List Command → List ℕ → Type 0
IsUnlawfulAfter kit before words = (command : Command) → SpellsCommand words command → IsLawfulAfter kit before command → ⊥

-- commands of words that are short enough to be kept
pub record AreWorded (commands : List Command) : Type 0 where
  pub words : List (List ℕ)
  pub short : All IsShort words
  pub spelled : SpellCommands words commands

-- a table that an opening with these words begins: its floor is 0, and it has its snapshots
pub record IsBegunBy (kit : Kit) (words : List ℕ) (table : Table) : Type 0 where
  pub spelled : SpellCommands (words ∷ []) (kept_in table).commands
  pub stamped : (kept_in table).stamp ≡ length (kept_in table).commands
  pub floored : (kept_in table).floor ≡ 0
  pub played : IsPlayed kit table
  pub named : HasItsSnapshots table

-- a table that has played the command of these words, and was played if it was before, and then has its snapshots if it
-- had them
pub record HasPlayed (kit : Kit) (old : Table) (words : List ℕ) (new : Table) : Type 0 where
  pub command : Command
  pub spelled : SpellsCommand words command
  pub kept : kept_in new ≡ kept_after (ends_turn kit) (kept_in old) (Play command)
  pub played : IsPlayed kit old → IsPlayed kit new
  pub named : IsPlayed kit old → HasItsSnapshots old → HasItsSnapshots new

-- a table that has room for a command more, and a stamp after its own
pub record HasRoom (table : Table) : Type 0 where
  pub room : length (kept_in table).commands < MOST_KEPT
  pub stamp : (kept_in table).stamp < LAST_STAMP
