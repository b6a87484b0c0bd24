-- The headline over all schedules, for tables of the game.
use Rattle.std.specs.Prelude.{◌≡◌, ◌⊎◌, ℕ, List, Option, None, Some}
use Rattle.rr_disk.specs.Disk.{DiskState}
use Rattle.rr_disk.specs.Moments.{EachImage}
use Rattle.rr_images.specs.Layout.{Keeps}
use Rattle.rr_kit.specs.declared.kit.Kit.{Kit}
use Rattle.rr_kit.specs.Kits.{KitTexts, SpellsKit}
use Rattle.rr_images.specs.Schedules.Laws.{at_first}
use Rattle.rr_images.specs.Schedules.Schedule.{EventOf, MayOpen, Runs, Serving, SystemOf, TurnedAway}
use Rattle.rr_reading.specs.Worlds.World as words
use Rattle.rr_tables.specs.Records.Schedules.{of_tables}
use Rattle.rr_tables.specs.Records.Taking.{table_files}
use Rattle.rr_tables.specs.Records.Words.{KeepCommands, in_words}
use Rattle.rr_tables.specs.Records.World.{Follows, IsLawfulIn, TableRequest, World, world_after}

-- a file keeps these tables
abbrev pub KeepsTables : KitTexts → World → List ℕ → Type 0
KeepsTables texts tables image = Keeps table_files image (in_words texts tables)

-- a file keeps these tables or, where a request is pending, those with it, and then it is lawful
abbrev pub KeepsTablesOr : KitTexts → Kit → World → Option TableRequest → List ℕ → Type 0
KeepsTablesOr texts kit tables None image = KeepsTables texts tables image
KeepsTablesOr texts kit tables (Some asked) image =
    KeepsTables texts tables image
    ⊎ (IsLawfulIn kit tables asked × KeepsTables texts (world_after kit tables asked.name asked.request) image)

-- The acknowledged requests, each lawful in its turn, lead to these tables; each image keeps them or, where a request is
-- pending, those with it. A store that serves has just these tables, and then none is pending.
pub record IsSafe (texts : KitTexts) (kit : Kit) (first : World) (system : SystemOf of_tables) : Type 0 where
  pub tables : World
  pub followed : Follows kit first system.acknowledged tables
  pub each : EachImage system.disk (KeepsTablesOr texts kit tables system.pending)
  pub serves : (served : words.World) → system.holder ≡ Serving served
      → (served ≡ in_words texts tables) × (system.pending ≡ None)

-- Whatever events come to a disk each image of which keeps first tables, as a new file keeps none, with the texts of a
-- right kit: the system stays safe.
abbrev pub WhateverComes : Type 0
WhateverComes =
    (texts : KitTexts) (kit : Kit) (first : World) (disk : DiskState) (events : List (EventOf of_tables))
    → (system : SystemOf of_tables) → SpellsKit texts kit → KeepCommands first
    → EachImage disk (KeepsTables texts first)
    → Runs of_tables (in_words texts first) (at_first of_tables disk) events system
    → IsSafe texts kit first system

-- And no opening is turned away.
abbrev pub NoneIsTurnedAway : Type 0
NoneIsTurnedAway =
    (texts : KitTexts) (first : World) (disk : DiskState) (events : List (EventOf of_tables))
    → (system : SystemOf of_tables) → EachImage disk (KeepsTables texts first)
    → Runs of_tables (in_words texts first) (at_first of_tables disk) events system
    → (moments : List DiskState) (now : DiskState) → MayOpen of_tables system.disk moments now TurnedAway → ⊥
