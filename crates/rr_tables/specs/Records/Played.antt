-- Worlds whose tables were played: those that a file's chains may spell, if no rule is to be broken in it.
use Rattle.std.specs.Prelude.{◌≤◌, [], ◌∷◌}
use Rattle.rr_game.specs.History.Playing.{ArePlayed, ends_turn}
use Rattle.rr_kit.specs.declared.kit.Kit.{Kit}
use Rattle.rr_kit.specs.Kits.{SpellsKit}
use Rattle.rr_turns.specs.Turns.{ended_turns}
use Rattle.rr_reading.specs.Worlds.World as words
use Rattle.rr_tables.specs.Records.Words.{IsInWords, kit_texts}
use Rattle.rr_tables.specs.Records.World.{TableState, World}

-- what a table keeps is an opening and then commands that are lawful, each after those before it, and its floor isn't above
-- the turns that ended in them
pub record IsPlayedTable (kit : Kit) (table : TableState) : Type 0 where
  pub lawful : ∥ ArePlayed kit table.commands ∥₁
  pub floored : table.floor ≤ ended_turns (ends_turn kit) table.commands

-- each table was played
abbrev pub ArePlayedTables : Kit → World → Type 0
ArePlayedTables kit [] = Unit {0}
ArePlayedTables kit (table ∷ tables) = IsPlayedTable kit table.1 × ArePlayedTables kit tables

-- a world in words whose texts spell a kit, by the rules of which its tables were played
pub record IsPlayedWorld (world : words.World) : Type 0 where
  pub kit : Kit
  pub right : SpellsKit (kit_texts world) kit
  pub tables : World
  pub spelled : IsInWords tables world
  pub played : ArePlayedTables kit tables
