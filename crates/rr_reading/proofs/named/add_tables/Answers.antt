use Rattle.rr_reading.specs.declared.dir.directory.TableEntry.{TableEntry}
use Rattle.rr_reading.proofs.ChainLemmas.{named_all, named_each}
use Rattle.rr_reading.proofs.named.add_tables.Goals as goal

pub returns-clause-heads : goal.returns-clause-heads
returns-clause-heads c =
    named_all (λ (x : TableEntry). x.chain) c.args.chains.now.items c.args.tables.now c.loop-table.chains.items c.loop-table.table-index c.loop-table-test.false c.loop-table.invariant

pub returns-clause-each : goal.returns-clause-each
returns-clause-each c =
    named_each (λ (x : TableEntry). x.chain) c.args.chains.now.items c.args.tables.now c.loop-table.chains.items
    (named_all (λ (x : TableEntry). x.chain) c.args.chains.now.items c.args.tables.now c.loop-table.chains.items c.loop-table.table-index c.loop-table-test.false c.loop-table.invariant)
