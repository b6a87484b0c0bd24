-- Going over kept commands, and playing them.
use Rattle.std.specs.Prelude.{◌≡◌, ℕ, ◌+◌, ◌≤◌, All, List, [], ◌∷◌, ◌++◌, if◌then◌else◌, length}
use Rattle.std.specs.List.{flat_map}
use Rattle.rr_code.specs.Command.{SpellsCommand}
use Rattle.rr_code.specs.declared.command.Command.{Command}
use Rattle.rr_game.specs.declared.game.Game.{Game}
use Rattle.rr_game.specs.declared.history.table.Table.{Table}
use Rattle.rr_game.specs.History.Snapshots.{is_spaced}
use Rattle.rr_game.specs.History.Tables.{kept_in}
use Rattle.rr_kit.specs.declared.kit.Kit.{Kit}
use Rattle.rr_reading.specs.declared.lending.commands.Commands.{Commands}
use Rattle.rr_reading.specs.Lending.Commands.{Begins, IsCut, rest_of}
use Rattle.rr_reading.specs.Dir.Kept.{IsShort, spelled_command}
use Rattle.rr_tables.specs.Records.Words.{SpellCommands}
use Rattle.rr_store.specs.Recovery.Kept.{HasPlayed, HasRoom, IsBegunBy, IsUnlawfulAfter, SpellsNoOpening}
use Rattle.rr_store.specs.Replayed.{counts_played}

-- the next command begins the table
pub record BeginsTable (kit : Kit) (file : List ℕ) (old new : Commands) (table : Table) : Type 0 where
  pub words : List ℕ
  pub passed : Begins (rest_of file old) words (rest_of file new)
  pub begun : IsBegunBy kit words table

-- the next command was played
pub record PlaysNext (kit : Kit) (file : List ℕ) (old : Commands) (before : Table) (new : Commands) (after : Table) : Type 0 where
  pub words : List ℕ
  pub passed : Begins (rest_of file old) words (rest_of file new)
  pub has_played : HasPlayed kit before words after

-- a table that has played a command has a snapshot more just where one is due behind it
pub record ShowsNext (old new : Table) : Type 0 where
  pub counted : length new.kept.commands ≡ length old.kept.commands + 1
  pub shown : All (λ (count : ℕ). count ≤ length old.kept.commands) (counts_played old.kept.snapshots)
      → counts_played new.kept.snapshots
      ≡ counts_played old.kept.snapshots ++ (if is_spaced (length new.kept.commands) then length new.kept.commands ∷ [] else [])

-- these bytes begin with no opening
pub data BeginsNoTable (rest : List ℕ) : Type 0 where
  No_command : rest ≡ [] → BeginsNoTable rest
  No_opening : (words behind : List ℕ) → Begins rest words behind → SpellsNoOpening words → BeginsNoTable rest
  First_cut : IsCut rest → BeginsNoTable rest

-- no command may be left and one is, or the next one isn't lawful, or is cut
pub data PlaysNoMore (kit : Kit) (rest : List ℕ) (table : Table) (left : ℕ) : Type 0 where
  None_left : (words behind : List ℕ) → Begins rest words behind → left ≡ 0 → PlaysNoMore kit rest table left
  Unlawful : (words behind : List ℕ) → Begins rest words behind
      → (HasRoom table → IsUnlawfulAfter kit (kept_in table).commands words) → PlaysNoMore kit rest table left
  Next_cut : IsCut rest → PlaysNoMore kit rest table left

-- these commands are the first of those
abbrev pub IsFrontOf : List Command → List Command → Type 0
IsFrontOf front commands = (behind : List Command) × (commands ≡ front ++ behind)

-- the bytes begin with these commands, and go on with the rest
pub record KeepsFront (bytes : List ℕ) (commands : List Command) (rest : List ℕ) : Type 0 where
  pub words : List (List ℕ)
  pub short : All IsShort words
  pub split : bytes ≡ flat_map spelled_command words ++ rest
  pub spelled : SpellCommands words commands

-- the next command was kept behind those before it
pub record KeepsNext (file : List ℕ) (old : Commands) (before : List Command) (new : Commands) (after : List Command) : Type 0 where
  pub words : List ℕ
  pub passed : Begins (rest_of file old) words (rest_of file new)
  pub command : Command
  pub spelled : SpellsCommand words command
  pub kept : after ≡ before ++ command ∷ []

-- these bytes begin with no command
pub data KeepsNoMore (rest : List ℕ) : Type 0 where
  No_more : rest ≡ [] → KeepsNoMore rest
  Unspelled : (words behind : List ℕ) → Begins rest words behind → ((command : Command) → SpellsCommand words command → ⊥) → KeepsNoMore rest
  Cut_off : IsCut rest → KeepsNoMore rest

-- the table stands at this game, behind as many commands as that has played, and has these snapshots; its floor is 0
pub record Recalls (game : Game) (snapshots : List Game) (table : Table) : Type 0 where
  pub counted : length (kept_in table).commands ≡ game.played
  pub stamped : (kept_in table).stamp ≡ length (kept_in table).commands
  pub floored : (kept_in table).floor ≡ 0
  pub at : table.game ≡ game
  pub shown : table.kept.snapshots ≡ snapshots
