use Rattle.std.proofs.Common.{sym, subst}
use Rattle.rr_game.specs.declared.history.table.Table.{Table}
use Rattle.rr_game.specs.History.Tables.{kept_in}
use Rattle.rr_tables.specs.Records.World.{TableState}
use Rattle.rr_tables.specs.Writable.{IsWritable}
use Rattle.rr_tables.proofs.WritableLemmas.{writable_opened}
use Rattle.rr_tables.proofs.taking.open_table.Goals as goal

pub returns-in-Ok-clause-writable : goal.returns-in-Ok-clause-writable
returns-in-Ok-clause-writable c =
    subst (λ (table : Table). IsWritable (kept_in table)) (sym c.in-Ok.ensures.ok)
    (subst (λ (kept : TableState). IsWritable kept) (sym c.in_ok-table.ensures.kept) (writable_opened c.args.players.now))
