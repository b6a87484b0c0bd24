-- What a store's file holds, by the words of its commands.
use Rattle.std.specs.Prelude.{◌≡◌, ℕ, List, [], ◌∷◌, slice_get, take, Option, Some, All}
use Rattle.std.specs.List.{flat_map}
use Rattle.rr_reading.specs.Dir.Kept.{IsShort, spelled_command}
use Rattle.rr_turns.specs.Kept.{Kept}

-- a table: its name, and what it keeps
pub record Table : Type 0 where
  pub name : List ℕ
  pub kept : Kept (List ℕ)

-- the kit's texts, which never change, and the tables in order of opening
pub record World : Type 0 where
  pub chart : List ℕ
  pub roster : List ℕ
  pub tiles : List ℕ
  pub board : List ℕ
  pub tables : List Table

-- a snapshot: the place of its table, how many of that table's first commands were played, and the bytes that show the
-- game
pub record Snapshot : Type 0 where
  pub table : ℕ
  pub kept : ℕ
  pub bytes : List ℕ

-- How records change worlds: a line, the world before it and the world behind it. And which bytes show a game: a world
-- with the texts of the kit, the commands that were played, and the bytes. And what a directory may say of the bank of
-- this roster's text, or whether it may say nothing.
pub record WorldRules : Type 1 where
  pub takes : List ℕ → World → World → Type 0
  pub shows : World → List (List ℕ) → List ℕ → Type 0
  pub banks : List ℕ → Option ℕ → Type 0

-- the bytes show the game that the first so many commands of the table at this place make
pub record IsShown (rules : WorldRules) (world : World) (place kept : ℕ) (bytes : List ℕ) : Type 0 where
  pub table : Table
  pub of_table : slice_get world.tables place ≡ Some table
  pub shown : rules.shows world (take kept table.kept.commands) bytes

-- each of these snapshots does
abbrev pub AreShown : WorldRules → World → List Snapshot → Type 0
AreShown rules world snapshots = All (λ snapshot. IsShown rules world snapshot.table snapshot.kept snapshot.bytes) snapshots

-- what a table's chain holds: its commands, each with the length of its words
abbrev pub text_for : Table → List ℕ
text_for table = flat_map spelled_command table.kept.commands

-- each command of each table is short enough for that
abbrev pub AreShort : List Table → Type 0
AreShort [] = Unit {0}
AreShort (table ∷ tables) = All IsShort table.kept.commands × AreShort tables
