use Rattle.std.proofs.Common.{◌≡◌, ◌++◌, map, take}
use Rattle.rr_reading.specs.declared.dir.directory.TableEntry.{TableEntry}
use Rattle.rr_reading.specs.Dir.Heads.{head_of}
use Rattle.rr_reading.proofs.named.add_tables.Given as goal

abbrev pub invariant-loop-table : goal.invariant-loop-table
invariant-loop-table l =
    map head_of l.chains.items ≡ map head_of l.initial.chains.items ++ map (λ (table : TableEntry). head_of table.chain) (take l.table-index l.tables)
