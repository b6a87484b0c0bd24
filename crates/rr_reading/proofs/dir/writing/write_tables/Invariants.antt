use Rattle.std.proofs.Common.{◌≡◌, ◌++◌, take}
use Rattle.std.specs.List.{flat_map}
use Rattle.rr_reading.specs.Dir.Directory.{spelled_table}
use Rattle.rr_reading.proofs.dir.writing.write_tables.Given as goal

abbrev pub invariant-loop-table : goal.invariant-loop-table
invariant-loop-table l = l.out.items ≡ l.initial.out.items ++ flat_map spelled_table (take l.table-index l.tables)
