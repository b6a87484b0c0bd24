-- Which lines of records are lawful in a world in words, and to which world they lead; and the files of such records.
use Rattle.std.specs.Prelude.{◌≡◌, ℕ, List, Option, None, Some, length}
use Rattle.rr_code.specs.declared.command.Command.{Command}
use Rattle.rr_game.specs.declared.game.Game.{Game}
use Rattle.rr_game.specs.History.GameBytes.{SpellsGame}
use Rattle.rr_game.specs.History.Playing.{IsPlayOf}
use Rattle.rr_images.specs.Codec.{Codec}
use Rattle.rr_kit.specs.declared.kit.Kit.{Kit}
use Rattle.rr_kit.specs.Kits.{SpellsKit}
use Rattle.rr_reading.specs.Worlds.Spelling.{worlds}
use Rattle.rr_roster.specs.Reading.{HasBank, NamesBank}
use Rattle.rr_reading.specs.Worlds.World as words
use Rattle.rr_reading.specs.Worlds.World.{WorldRules}
use Rattle.rr_tables.specs.Records.Played.{ArePlayedTables}
use Rattle.rr_tables.specs.Records.Lines.{TakesRecord}
use Rattle.rr_tables.specs.Records.Words.{IsInWords, SpellCommands, kit_texts}
use Rattle.rr_tables.specs.Records.World.{World}

-- The line spells a request that is lawful at its table, by the rules of the kit that the world's texts spell, and the
-- tables before it were played by these rules; it leads to the world in which the table has taken it, with the same texts.
pub record Takes (line : List ℕ) (old new : words.World) : Type 0 where
  pub kit : Kit
  pub right : SpellsKit (kit_texts old) kit
  pub before : World
  pub after : World
  pub was : IsInWords before old
  pub played : ArePlayedTables kit before
  pub taken : TakesRecord kit before line after
  pub becomes : IsInWords after new
  pub same_texts : kit_texts new ≡ kit_texts old

-- The bytes spell a game that has played as many commands as there are words; and by the rules of the kit that the world's
-- texts spell, the words are those of commands that are lawful, each after those before it, and the game is their play.
pub record Shows (world : words.World) (written : List (List ℕ)) (bytes : List ℕ) : Type 0 where
  pub game : Game
  pub spelled : SpellsGame bytes (length written) game
  pub played : (kit : Kit) (commands : List Command) → SpellsKit (kit_texts world) kit → SpellCommands written commands
      → IsPlayOf kit commands game

-- what a directory may say of the bank of this roster's text: nothing, if it names none; or what the bank begins with
abbrev pub SaysBank : List ℕ → Option ℕ → Type 0
SaysBank text None = NamesBank text → ⊥
SaysBank text (Some bank) = HasBank text bank

-- the rules of tables
abbrev pub table_rules : WorldRules
table_rules = record { takes = Takes; shows = Shows; banks = SaysBank }

-- files of tables: their records go by these rules
abbrev pub table_files : Codec
table_files = worlds table_rules
