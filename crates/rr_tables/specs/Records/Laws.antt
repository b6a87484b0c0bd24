-- The laws of records, and of worlds and their words.
use Rattle.std.specs.Prelude.{◌≡◌, ℕ, List, [], map}
use Rattle.rr_code.specs.Request.{record_text}
use Rattle.rr_images.specs.Codec.{IsExact, Replays}
use Rattle.rr_images.specs.Layout.{Keeps, Stands}
use Rattle.rr_kit.specs.declared.kit.Kit.{Kit}
use Rattle.rr_kit.specs.Kits.{KitTexts, SpellsKit}
use Rattle.rr_reading.specs.Worlds.World as words
use Rattle.rr_tables.specs.Records.Played.{ArePlayedTables, IsPlayedWorld}
use Rattle.rr_tables.specs.Records.Lines.{IsUnlawful}
use Rattle.rr_tables.specs.Records.Taking.{Takes, table_files}
use Rattle.rr_tables.specs.Records.Words.{IsInWords, KeepCommands, in_words, kit_texts}
use Rattle.rr_tables.specs.Records.World.{Follows, IsLawfulIn, IsOfForm, TableRequest, World, world_after}

-- a world of commands that words spell is one world in words, with the texts of its kit
pub record HasOneInWords (texts : KitTexts) (tables : World) : Type 0 where
  pub spelled : IsInWords tables (in_words texts tables)
  pub one : (world : words.World) → IsInWords tables world → kit_texts world ≡ texts → world ≡ in_words texts tables

abbrev pub HaveOneInWords : Type 0
HaveOneInWords = (texts : KitTexts) (tables : World) → KeepCommands tables → HasOneInWords texts tables

-- what is in words is one world of commands
abbrev pub AreOneOfCommands : Type 0
AreOneOfCommands =
    (first second : World) (world : words.World) → IsInWords first world → IsInWords second world → first ≡ second

-- and its commands are of a form that words spell
abbrev pub SpelledAreOfForm : Type 0
SpelledAreOfForm = (tables : World) (world : words.World) → IsInWords tables world → KeepCommands tables

-- a line leads from a world to one world
abbrev pub LeadToOneWorld : Type 0
LeadToOneWorld =
    (line : List ℕ) (old first second : words.World) → Takes line old first → Takes line old second → first ≡ second

-- so a file of tables is read in one way
abbrev pub FilesAreExact : Type 0
FilesAreExact = IsExact table_files

-- no line leads from a world back to it
abbrev pub MoveOn : Type 0
MoveOn = (line : List ℕ) (world : words.World) → Takes line world world → ⊥

-- where the tables were played, the record of a lawful request leads to the world in which its table has taken it
abbrev pub LawfulAreTaken : Type 0
LawfulAreTaken =
    (kit : Kit) (tables : World) (old : words.World) (asked : TableRequest) → SpellsKit (kit_texts old) kit
    → IsInWords tables old → ArePlayedTables kit tables → IsLawfulIn kit tables asked
    → Takes (record_text asked.name asked.request) old
    (in_words (kit_texts old) (world_after kit tables asked.name asked.request))

-- a request whose record leads to a world is lawful at tables that were played, and its table has taken it there
pub record IsTaken (kit : Kit) (tables : World) (asked : TableRequest) (old new : words.World) : Type 0 where
  pub played : ArePlayedTables kit tables
  pub lawful : IsLawfulIn kit tables asked
  pub spelled : IsInWords (world_after kit tables asked.name asked.request) new
  pub same_texts : kit_texts new ≡ kit_texts old

abbrev pub TakenAreLawful : Type 0
TakenAreLawful =
    (kit : Kit) (tables : World) (old new : words.World) (asked : TableRequest) → SpellsKit (kit_texts old) kit
    → IsInWords tables old → IsOfForm asked → Takes (record_text asked.name asked.request) old new
    → IsTaken kit tables asked old new

-- a line that spells no lawful request leads nowhere
abbrev pub UnlawfulLeadNowhere : Type 0
UnlawfulLeadNowhere =
    (kit : Kit) (tables : World) (old new : words.World) (line : List ℕ) → SpellsKit (kit_texts old) kit
    → IsInWords tables old → IsUnlawful kit tables line → Takes line old new → ⊥

-- the lines of these requests' records
abbrev pub lines_of : List TableRequest → List (List ℕ)
lines_of requests = map (λ asked. record_text asked.name asked.request) requests

-- these lines are the records of requests, each lawful in its turn, and lead where the requests lead
pub record AreOfRequests (kit : Kit) (tables : World) (lines : List (List ℕ)) (old new : words.World) : Type 0 where
  pub requests : List TableRequest
  pub written : lines ≡ lines_of requests
  pub after : World
  pub followed : Follows kit tables requests after
  pub spelled : IsInWords after new
  pub same_texts : kit_texts new ≡ kit_texts old

abbrev pub RecordsAreOfRequests : Type 0
RecordsAreOfRequests =
    (kit : Kit) (tables : World) (old new : words.World) (lines : List (List ℕ)) → SpellsKit (kit_texts old) kit
    → IsInWords tables old → Replays table_files old lines new → AreOfRequests kit tables lines old new

-- and, where the tables were played, the records of requests, each lawful in its turn, lead where these lead
abbrev pub RequestsAreReplayed : Type 0
RequestsAreReplayed =
    (kit : Kit) (tables after : World) (old : words.World) (requests : List TableRequest)
    → SpellsKit (kit_texts old) kit → IsInWords tables old → ArePlayedTables kit tables
    → Follows kit tables requests after
    → Replays table_files old (lines_of requests) (in_words (kit_texts old) after)

-- a kit's world without a table was played
abbrev pub NewWorldsArePlayed : Type 0
NewWorldsArePlayed = (texts : KitTexts) (kit : Kit) → SpellsKit texts kit → IsPlayedWorld (in_words texts [])

-- a line leads from a world that was played to such a world
abbrev pub PlayedStayPlayed : Type 0
PlayedStayPlayed = (line : List ℕ) (old new : words.World) → Takes line old new → IsPlayedWorld old × IsPlayedWorld new

-- from a world that was played lines lead to such a world
abbrev pub ReplayedArePlayed : Type 0
ReplayedArePlayed =
    (lines : List (List ℕ)) (old new : words.World) → Replays table_files old lines new → IsPlayedWorld old
    → IsPlayedWorld new

-- and to a world that was played they lead from such a world
abbrev pub ReplayedWerePlayed : Type 0
ReplayedWerePlayed =
    (lines : List (List ℕ)) (old new : words.World) → Replays table_files old lines new → IsPlayedWorld new
    → IsPlayedWorld old

-- so a base was played from which near records lead, and then far ones, to a world that was played
abbrev pub ReadHavePlayedBases : Type 0
ReadHavePlayedBases =
    (near far : List (List ℕ)) (base middle world : words.World) → Replays table_files base near middle
    → Replays table_files middle far world → IsPlayedWorld world → IsPlayedWorld base

-- so was the base of a file that keeps a world that was played
abbrev pub KeptHavePlayedBases : Type 0
KeptHavePlayedBases =
    (image : List ℕ) (world : words.World) (keeps : Keeps table_files image world) → IsPlayedWorld world
    → IsPlayedWorld keeps.layout.base

-- and that of a file that stands for one
abbrev pub StandingHavePlayedBases : Type 0
StandingHavePlayedBases =
    (image : List ℕ) (world : words.World) (stands : Stands table_files image world) → IsPlayedWorld world
    → IsPlayedWorld stands.base

-- tables were played where they are, in words, a world that was: by its one kit
abbrev pub TablesOfPlayedArePlayed : Type 0
TablesOfPlayedArePlayed =
    (kit : Kit) (tables : World) (world : words.World) → SpellsKit (kit_texts world) kit → IsInWords tables world
    → IsPlayedWorld world → ArePlayedTables kit tables
