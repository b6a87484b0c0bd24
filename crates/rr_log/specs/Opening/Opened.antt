-- What an opening gives of a file.
use Rattle.std.specs.Prelude.{◌≡◌, ◌⊎◌, ℕ, List, map}
use Rattle.rr_checkpoint.specs.declared.plan.standing.StandingSnapshot.{StandingSnapshot}
use Rattle.rr_checkpoint.specs.Plan.Standing.{standing_chains}
use Rattle.rr_checkpoint.specs.Writer.{taken_of, free_of}
use Rattle.rr_reading.specs.Dir.Directory.{directory_of}
use Rattle.rr_reading.specs.declared.dir.directory.SnapshotEntry.{SnapshotEntry}
use Rattle.rr_pages.specs.declared.journal.reading.RunEnd.TheVariants.{Damaged}
use Rattle.rr_pages.specs.Journal.Reading.{lines}
use Rattle.rr_log.specs.declared.opening.opened.Opened.{Opened}
use Rattle.rr_pages.specs.FreePages.{present_of}
use Rattle.rr_reading.specs.Chains.{held_in}
use Rattle.rr_reading.specs.Held.{Held, chains_held, tables_in}

-- what it says that the file holds: the root that is taken and the pages that this reaches are the writer's
abbrev pub held_by : {C : Type 0} → List ℕ → Opened C → Held
held_by file opened =
    record {
      side = (taken_of opened.writer).side;
      root = (taken_of opened.writer).root;
      directory = directory_of opened.dir;
      chain = held_in file opened.directory;
      texts = chains_held opened.texts;
      tables = tables_in file opened.tables;
      snapshots = standing_chains opened.snapshots.items;
      reached = present_of (free_of opened.writer);
      near = lines opened.near.records.items;
      near_end = opened.near.end;
      far = lines opened.far.records.items;
      far_end = opened.far.end;
    }

-- the records of a half end in one that is damaged
abbrev pub HasDamagedRecord : Held → Type 0
HasDamagedRecord has = (has.near_end ≡ Damaged) ⊎ (has.far_end ≡ Damaged)

-- the same of what was read
abbrev pub TellsDamagedRecord : {C : Type 0} → Opened C → Type 0
TellsDamagedRecord opened = (opened.near.end ≡ Damaged) ⊎ (opened.far.end ≡ Damaged)

-- the place of a snapshot's table, and how many of its commands were played: as its entry tells, and as it stands
abbrev pub told_by : SnapshotEntry → ℕ × ℕ
told_by entry = (entry.table, entry.kept)

abbrev pub told_as : StandingSnapshot → ℕ × ℕ
told_as snapshot = (snapshot.table, snapshot.kept)

-- each snapshot is that of the entry of the same place
abbrev pub AreOfEntries : List SnapshotEntry → List StandingSnapshot → Type 0
AreOfEntries entries snapshots = map told_as snapshots ≡ map told_by entries
