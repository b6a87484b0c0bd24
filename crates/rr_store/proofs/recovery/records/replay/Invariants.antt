use Rattle.std.proofs.Common.{◌≡◌, ◌≤◌, length, take}
use Rattle.rr_pages.specs.declared.journal.layout.TheConstants.{LAST_SLOT}
use Rattle.rr_pages.specs.Journal.Reading.{lines}
use Rattle.rr_store.specs.Recovery.Replaying.{Replays}
use Rattle.rr_store.specs.Replayed.{PlaysRecords}
use Rattle.rr_tables.specs.Tables.{ArePlayed, HaveTheirSnapshots, world_of}
use Rattle.rr_store.proofs.recovery.records.replay.Given as goal

abbrev pub invariant-loop-bytes : goal.invariant-loop-bytes
invariant-loop-bytes l = record {
  so_far : ArePlayed l.initial.tables → Replays l.initial.tables.kit (world_of l.initial.tables) (lines (take l.bytes-index l.records)) (world_of l.tables);
  plays : ArePlayed l.initial.tables → HaveTheirSnapshots l.initial.tables → length l.records ≤ LAST_SLOT → PlaysRecords l.initial.tables.kit (world_of l.initial.tables) (lines (take l.bytes-index l.records)) (world_of l.tables) l.plays;
  kit : l.tables.kit ≡ l.initial.tables.kit;
  played : ArePlayed l.initial.tables → ArePlayed l.tables;
  snapshots : ArePlayed l.initial.tables → HaveTheirSnapshots l.initial.tables → HaveTheirSnapshots l.tables;
}
