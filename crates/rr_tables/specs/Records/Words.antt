-- Worlds by their commands, as a store holds them, and by the words of these, as its file does.
use Rattle.std.specs.Prelude.{◌≡◌, ℕ, List, [], ◌∷◌, map}
use Rattle.rr_code.specs.declared.command.Command.{Command}
use Rattle.rr_code.specs.Command.{IsCommand, SpellsCommand, text}
use Rattle.rr_kit.specs.Kits.{KitTexts, texts_of}
use Rattle.rr_reading.specs.Worlds.World.{Table}
use Rattle.rr_reading.specs.Worlds.World as words
use Rattle.rr_tables.specs.Records.World.{TableState, World}

-- these are the words of the commands, one after another
abbrev pub SpellCommands : List (List ℕ) → List Command → Type 0
SpellCommands [] [] = Unit {0}
SpellCommands (bytes ∷ others) (command ∷ commands) = SpellsCommand bytes command × SpellCommands others commands
SpellCommands [] (command ∷ commands) = ⊥
SpellCommands (bytes ∷ others) [] = ⊥

-- a table, and the same one in words
pub record IsTableInWords (table : List ℕ × TableState) (written : Table) : Type 0 where
  pub named : written.name ≡ table.0
  pub floored : written.kept.floor ≡ table.1.floor
  pub stamped : written.kept.stamp ≡ table.1.stamp
  pub spelled : SpellCommands written.kept.commands table.1.commands

-- these are the tables in words, in the order of opening
abbrev pub AreInWords : World → List Table → Type 0
AreInWords [] [] = Unit {0}
AreInWords (table ∷ tables) (written ∷ others) = IsTableInWords table written × AreInWords tables others
AreInWords [] (written ∷ others) = ⊥
AreInWords (table ∷ tables) [] = ⊥

-- these are the tables of a world in words
abbrev pub IsInWords : World → words.World → Type 0
IsInWords tables world = AreInWords tables world.tables

-- the texts of a world's kit
abbrev pub kit_texts : words.World → KitTexts
kit_texts world = texts_of world.chart world.roster world.tiles world.board

-- the world in words of these tables, with these texts
abbrev pub table_in_words : List ℕ × TableState → Table
table_in_words table =
    record {
      name = table.0;
      kept = record { commands = map text table.1.commands; floor = table.1.floor; stamp = table.1.stamp };
    }

abbrev pub in_words : KitTexts → World → words.World
in_words texts world =
    record {
      chart = texts.chart;
      roster = texts.roster;
      tiles = texts.tiles;
      board = texts.board;
      tables = map table_in_words world;
    }

-- each command is of a form that words spell
abbrev pub AreCommands : List Command → Type 0
AreCommands [] = Unit {0}
AreCommands (command ∷ commands) = IsCommand command × AreCommands commands

-- each command of each table is
abbrev pub KeepCommands : World → Type 0
KeepCommands [] = Unit {0}
KeepCommands (table ∷ tables) = AreCommands table.1.commands × KeepCommands tables
