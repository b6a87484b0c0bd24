use Rattle.std.proofs.Common.{◌≡◌, ℕ, ◌*◌, ◌^◌, ◌<◌, ◌≤◌, All, length, take, Ok}
use Rattle.rr_reading.specs.Held.{tables_in}
use Rattle.rr_reading.specs.Lending.Chains.{all_of}
use Rattle.rr_tables.specs.Records.Played.{ArePlayedTables}
use Rattle.rr_tables.specs.Tables.{ArePlayed, HaveTheirSnapshots, world_of}
use Rattle.rr_store.specs.Recovery.Reading.{OnlyReads}
use Rattle.rr_store.specs.Recovery.Shown.{AreShown, SpellsItsGame, shown_of}
use Rattle.rr_store.specs.Recovery.Told.{TellTables}
use Rattle.rr_store.specs.Replayed.{PlaysTables, counts_shown}
use Rattle.rr_reading.specs.declared.dir.directory.TheConstants.{MOST_TABLES}
use Rattle.rr_store.proofs.recovery.tables.restore_tables.Given as goal

abbrev pub invariant-loop-index : goal.invariant-loop-index
invariant-loop-index g l =
    record {
      told : g.D.Disk.Honest l.disk → length l.entries ≡ length (all_of l.fn.chains.chains) → TellTables (take l.index l.entries) (take l.index (tables_in (g.D.Disk.state l.fn.disk).content l.fn.chains)) (world_of l.tables);
      counted : length (world_of l.tables) ≡ l.index;
      kit : l.tables.kit ≡ l.fn.kit;
      played : AreShown l.fn.kit l.snapshots (world_of l.tables) → ArePlayed l.tables × ArePlayedTables l.fn.kit (world_of l.tables);
      snapshots : HaveTheirSnapshots l.tables;
      games : (place : ℕ) → place < l.index → All SpellsItsGame (shown_of place l.snapshots);
      plays : g.D.Disk.Honest l.disk → AreShown l.fn.kit l.snapshots (world_of l.tables) → PlaysTables l.fn.kit (λ place. counts_shown (shown_of place l.snapshots)) 0 (world_of l.tables) l.plays;
      bounded : l.plays ≤ l.index * 2 ^ 33;
      room : l.index ≤ MOST_TABLES;
      only_reads : OnlyReads {T = Unit {0}} g.D.Disk l.fn.disk l.disk l.fn.chains l.chains (Ok tt);
    }
