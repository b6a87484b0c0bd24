-- What the directory and the tables' chains tell of the tables.
use Rattle.std.specs.Prelude.{◌≡◌, ◌⊎◌, ℕ, List, [], ◌∷◌, codes, length}
use Rattle.rr_code.specs.Request.{IsRequest, request_text}
use Rattle.rr_code.specs.declared.command.Command.{Command}
use Rattle.rr_reading.specs.declared.dir.directory.TableEntry.{TableEntry}
use Rattle.rr_reading.specs.Dir.Kept.{SpellsKept}
use Rattle.rr_images.specs.Holding.{HeldChain}
use Rattle.rr_tables.specs.Records.World.{TableState, World}
use Rattle.rr_roster.specs.declared.company.Corp.{Corp}
use Rattle.rr_roster.specs.Company.{corp_name}
use Rattle.rr_turns.specs.declared.request.Request.{Request}
use Rattle.rr_words.specs.Line.{line_of}
use Rattle.rr_reading.specs.Worlds.World.{Table}
use Rattle.rr_store.specs.Recovery.Kept.{HoldsCommands}

-- the words of a request
pub record SpellsRequest (words : List ℕ) (asked : Request Command) : Type 0 where
  pub request : IsRequest asked
  pub spelled : words ≡ request_text asked

-- the words that ask for the best run of a corporation
abbrev pub SpellsBest : List ℕ → Corp → Type 0
SpellsBest words corp = words ≡ line_of (codes "best" ∷ corp_name corp ∷ [])

-- Words that a line may have behind the name of its table: those of a request, or of `best`. Of these a table keeps
-- commands alone, which is for the rules to say.
abbrev pub IsSpelled : List ℕ → Type 0
IsSpelled words = ((asked : Request Command) × SpellsRequest words asked) ⊎ ((corp : Corp) × SpellsBest words corp)

-- each of these words is such
abbrev pub AreSpelled : List (List ℕ) → Type 0
AreSpelled [] = Unit {0}
AreSpelled (words ∷ others) = IsSpelled words × AreSpelled others

-- the words that each of these tables keeps
abbrev pub KeepSpelled : List Table → Type 0
KeepSpelled [] = Unit {0}
KeepSpelled (table ∷ tables) = AreSpelled table.kept.commands × KeepSpelled tables

-- the bytes of an entry's chain are as many kept commands as it says, whose words are such
pub record TellsWords (entry : TableEntry) (bytes : List ℕ) : Type 0 where
  pub kept_words : List (List ℕ)
  pub kept : SpellsKept bytes kept_words
  pub counted : length kept_words ≡ entry.kept
  pub spelled : AreSpelled kept_words

-- each entry, and the bytes of its chain, have this
abbrev pub EachHas : (TableEntry → List ℕ → Type 0) → List TableEntry → List HeldChain → Type 0
EachHas P [] chains = Unit {0}
EachHas P (entry ∷ entries) [] = ⊥
EachHas P (entry ∷ entries) (chain ∷ chains) = P entry chain.text × EachHas P entries chains

-- an entry, and the bytes of its chain, tell this table
pub record TellsTable (entry : TableEntry) (bytes : List ℕ) (table : List ℕ × TableState) : Type 0 where
  pub named : entry.name ≡ table.0
  pub stamped : entry.stamp ≡ table.1.stamp
  pub floored : entry.floor ≡ table.1.floor
  pub kept : HoldsCommands bytes entry.kept table.1.commands

-- the entries and their chains tell these tables, in the order of opening
abbrev pub TellTables : List TableEntry → List HeldChain → World → Type 0
TellTables [] [] [] = Unit {0}
TellTables (entry ∷ entries) (chain ∷ chains) (table ∷ tables) =
    TellsTable entry chain.text table × TellTables entries chains tables
TellTables entries chains tables = ⊥
