-- The world that a file tells, and why one tells none.
use Rattle.std.specs.Prelude.{◌≡◌, ◌⊎◌, ◌++◌, ℕ, List, Option, None, Some, length}
use Rattle.rr_game.specs.History.GameBytes.{SpellsOneGame}
use Rattle.rr_images.specs.Holding.{texts_of}
use Rattle.rr_kit.specs.declared.kit.Kit.{Kit}
use Rattle.rr_kit.specs.Kits.{IsWrongKit, KitTexts, SpellsKit}
use Rattle.rr_log.specs.Opening.Opened.{HasDamagedRecord}
use Rattle.rr_reading.specs.Held.{Held, chains_of}
use Rattle.rr_tables.specs.Records.Played.{ArePlayedTables}
use Rattle.rr_roster.specs.Reading.{HasBank, NamesBank}
use Rattle.rr_tables.specs.Records.Taking.{SaysBank, Shows, Takes, table_rules}
use Rattle.rr_tables.specs.Records.Words.{IsInWords, kit_texts}
use Rattle.rr_tables.specs.Records.World.{World}
use Rattle.rr_reading.specs.Worlds.Spelling.{Spells}
use Rattle.rr_reading.specs.Worlds.World as words
use Rattle.rr_reading.specs.Worlds.World.{WorldRules}
use Rattle.rr_pages.specs.declared.fault.Damage.{Damage}
use Rattle.rr_pages.specs.declared.fault.Damage.TheVariants as D
use Rattle.rr_store.specs.declared.recovery.fault.Fault.{Fault}
use Rattle.rr_store.specs.declared.recovery.fault.Fault.TheVariants as F
use Rattle.rr_store.specs.Recovery.Replaying.{BreaksOff, Replays}
use Rattle.rr_store.specs.Recovery.Texts.{texts_in}
use Rattle.rr_store.specs.Recovery.Told.{KeepSpelled}

-- the chains of the root spell this world in words, by rules that say which bytes of a snapshot show a game
abbrev pub SpellBy : WorldRules → Held → words.World → Type 0
SpellBy rules has world =
    Spells rules has.root.version has.chain.text (texts_of (chains_of has.texts (has.tables ++ has.snapshots))) world

-- a directory says no other number for the bank than the roster's
abbrev pub SaysNumber : List ℕ → Option ℕ → Type 0
SaysNumber text None = Unit {0}
SaysNumber text (Some bank) = HasBank text bank

-- a text of the kit is wrong; or the directory says no bank, and the roster names one
abbrev pub IsWrongFor : Option ℕ → KitTexts → Type 0
IsWrongFor None texts = IsWrongKit texts ⊎ NamesBank texts.roster
IsWrongFor (Some bank) texts = IsWrongKit texts

-- what is asked of a snapshot before it is trusted: nothing; or that it is a game that has played as many commands as it
-- tells. And what is trusted: that it shows the game that the commands before it play.
abbrev pub any_bytes : WorldRules
any_bytes = record { takes = Takes; shows = λ world written bytes. Unit {0}; banks = λ text bank. Unit {0} }

abbrev pub any_game : WorldRules
any_game = record { takes = Takes; shows = λ world written bytes. SpellsOneGame bytes (length written); banks = SaysNumber }

abbrev pub true_game : WorldRules
true_game = record { takes = Takes; shows = Shows; banks = SaysNumber }

-- the chains of the root spell a world, whose tables by their commands are these
pub record IsBase (has : Held) (base : World) (world : words.World) : Type 0 where
  pub spells : SpellBy table_rules has world
  pub based : IsInWords base world

-- The worlds that a file tells: what the chains of its root spell, what its near records make of that, and then the far
-- ones. No record is damaged.
pub record IsRecovered (has : Held) (texts : KitTexts) (kit : Kit) (base middle now : World) : Type 0 where
  pub world : words.World
  pub spells : SpellBy table_rules has world
  pub of_kit : kit_texts world ≡ texts
  pub right : SpellsKit texts kit
  pub based : IsInWords base world
  pub played : ArePlayedTables kit base
  pub near : Replays kit base has.near middle
  pub far : Replays kit middle has.far now
  pub whole : HasDamagedRecord has → ⊥

-- the chains of the root spell this world in words, and what its tables keep are words of lines
pub record IsWorded (has : Held) (world : words.World) : Type 0 where
  pub spells : SpellBy any_bytes has world
  pub kept : KeepSpelled world.tables

-- and each snapshot is a game that has played as many commands as it tells
pub record IsWritten (has : Held) (world : words.World) : Type 0 where
  pub spells : SpellBy any_game has world
  pub kept : KeepSpelled world.tables

-- kept words of some table are no request's, and no `best`
abbrev pub HasBadWords : Held → Type 0
HasBadWords has = (world : words.World) → IsWorded has world → ⊥

-- or some snapshot is no game that has played as many commands, or the directory says another bank than the roster
abbrev pub HasBadForm : Held → Type 0
HasBadForm has = (world : words.World) → IsWritten has world → ⊥

-- each snapshot shows the game that the commands before it play
abbrev pub HasTrueSnapshots : Held → Type 0
HasTrueSnapshots has = (world : words.World) → IsWritten has world → SpellBy true_game has world

-- words and snapshots are of their form, and the texts spell no kit
pub record HasWrongKit (has : Held) : Type 0 where
  pub world : words.World
  pub written : IsWritten has world
  pub wrong : IsWrongFor has.directory.bank (texts_in has.texts)

-- form and kit are right, and no tables in these words were played
pub record HasUnplayedTable (has : Held) : Type 0 where
  pub world : words.World
  pub written : IsWritten has world
  pub kit : Kit
  pub right : SpellsKit (texts_in has.texts) kit
  pub banked : SaysBank has.texts.roster.text has.directory.bank
  pub unplayed : (base : World) → IsInWords base world → ArePlayedTables kit base → ⊥

-- the tables are right, and a near or a far record has no lawful request at its turn, or a record is damaged
pub record HasBadRecord (has : Held) : Type 0 where
  pub base : World
  pub world : words.World
  pub is_base : IsBase has base world
  pub kit : Kit
  pub right : SpellsKit (texts_in has.texts) kit
  pub played : ArePlayedTables kit base
  pub bad : BreaksOff kit base (has.near ++ has.far) ⊎ HasDamagedRecord has

-- This clause, of those that the rules decide, is the least that the file breaks. Snapshots are trusted: where one shows
-- another game than its commands play, nothing is said of what the rules decide.
abbrev pub IsDamage : Held → Damage → Type 0
IsDamage has D.Form = HasBadForm has
IsDamage has D.Kit = HasWrongKit has
IsDamage has D.Kept = HasTrueSnapshots has → HasUnplayedTable has
IsDamage has D.Records = HasTrueSnapshots has → HasBadRecord has
IsDamage has _ = ⊥

-- why no tables are recovered: the device may fail at any file, and want of memory may come at one whose kept words are
-- right
abbrev pub Refuses : Held → Fault → Type 0
Refuses has (F.Damaged damage) = IsDamage has damage
Refuses has (F.Disk fault) = Unit {0}
Refuses has F.OutOfMemory = HasBadWords has → ⊥
