-- What is true of each world that requests lead to, of each file that stands for one, and of whatever comes to a file.
use Rattle.std.specs.Prelude.{◌≡◌, ℕ, List, [], ◌++◌, length, Some}
use Rattle.std.specs.List.{AllByRecursion}
use Rattle.rr_disk.specs.Disk.{DiskState}
use Rattle.rr_disk.specs.Moments.{EachImage}
use Rattle.rr_kit.specs.declared.kit.Kit.{Kit}
use Rattle.rr_kit.specs.Kits.{IsWrongKit, KitTexts, SpellsKit}
use Rattle.rr_game.specs.Play.{play, players_of}
use Rattle.rr_laws.specs.Best.{HasBestRuns}
use Rattle.rr_laws.specs.Dividends.{HasRightDividends}
use Rattle.rr_laws.specs.Sound.{IsSoundTable, NamesCorporations}
use Rattle.rr_tables.specs.Records.Headline.{IsSafe, KeepsTables}
use Rattle.rr_tables.specs.Records.Schedules.{of_tables}
use Rattle.rr_tables.specs.Records.Words.{in_words}
use Rattle.rr_tables.specs.Records.World.{Follows, IsLawfulIn, TableRequest, World, world_after}
use Rattle.rr_images.specs.Schedules.Laws.{at_first}
use Rattle.rr_images.specs.Schedules.Schedule.{EventOf, Runs, SystemOf}
use Rattle.rr_store.specs.declared.fault.Fault.{Fault}
use Rattle.rr_store.specs.Files.{StandsFor}
use Rattle.rr_store.specs.Opening.{IsNoVerdict, Refuses}

-- each table's book is in order
abbrev pub AreInOrder : Kit → World → Type 0
AreInOrder kit tables = AllByRecursion (λ t. IsSoundTable kit.roster (length (players_of t.1.commands)) (play kit t.1.commands).book) tables

-- each run that a table's book has as best was best in the book before it
abbrev pub HaveBestRuns : Kit → World → Type 0
HaveBestRuns kit tables = AllByRecursion (λ t. HasBestRuns kit (play kit t.1.commands).book) tables

-- each dividend that a table paid or withheld was right
abbrev pub HaveRightDividends : Kit → World → Type 0
HaveRightDividends kit tables = AllByRecursion (λ t. HasRightDividends kit t.1.commands) tables

-- all three
abbrev pub IsSoundWorld : Kit → World → Type 0
IsSoundWorld kit tables = AreInOrder kit tables × HaveBestRuns kit tables × HaveRightDividends kit tables

-- so it is whatever lawful requests led to the world; for dividends the kit has to be a right one
abbrev pub WorldsAreSound : Type 0
WorldsAreSound =
    (kit : Kit) (requests : List TableRequest) (tables : World) → NamesCorporations kit → Follows kit [] requests tables
    → AreInOrder kit tables × HaveBestRuns kit tables × ((texts : KitTexts) → SpellsKit texts kit → HaveRightDividends kit tables)

-- and so is each world for which a file stands, with the kit that its texts spell
abbrev pub FilesAreSound : Type 0
FilesAreSound =
    (file : List ℕ) (texts : KitTexts) (tables : World) → StandsFor file texts tables
    → (kit : Kit) × SpellsKit texts kit × AreInOrder kit tables × ∥ HaveBestRuns kit tables × HaveRightDividends kit tables ∥₁

-- The acknowledged requests lead to tables that are sound, and each image keeps these or, where a request is pending,
-- those with it, which are sound as well.
pub record IsSafeAndSound (texts : KitTexts) (kit : Kit) (system : SystemOf of_tables) : Type 0 where
  pub safe : IsSafe texts kit [] system
  pub sound : IsSoundWorld kit safe.tables
  pub sound_with : (asked : TableRequest) → system.pending ≡ Some asked → IsLawfulIn kit safe.tables asked
      → IsSoundWorld kit (world_after kit safe.tables asked.name asked.request)

-- so it is whatever events come to a disk each image of which is a new file with the texts of a right kit
abbrev pub WhateverComesIsSound : Type 0
WhateverComesIsSound =
    (texts : KitTexts) (kit : Kit) (disk : DiskState) (events : List (EventOf of_tables)) (system : SystemOf of_tables)
    → SpellsKit texts kit → EachImage disk (KeepsTables texts [])
    → Runs of_tables (in_words texts []) (at_first of_tables disk) events system → IsSafeAndSound texts kit system

-- a kit that texts spell is no wrong one
abbrev pub RightKitsAreNotWrong : Type 0
RightKitsAreNotWrong = (texts : KitTexts) (kit : Kit) → SpellsKit texts kit → ¬ IsWrongKit texts

-- a file that stands for a world is refused only where the device fails or memory is wanted
abbrev pub StandingFilesOpen : Type 0
StandingFilesOpen =
    (file : List ℕ) (texts : KitTexts) (tables : World) (fault : Fault) → StandsFor file texts tables → Refuses file fault → IsNoVerdict fault

-- requests that lead on lead to another world: a table that is taken back is another one, by its stamp
abbrev pub WorldsDiffer : Type 0
WorldsDiffer =
    (kit : Kit) (first before after : World) (requests more : List TableRequest) → Follows kit first requests before → Follows kit first (requests ++ more) after
    → after ≡ before → more ≡ []
