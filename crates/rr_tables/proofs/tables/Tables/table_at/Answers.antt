use Rattle.std.proofs.Common.{◌∙◌, Some, ap, map, sym}
use Rattle.rr_game.specs.declared.history.table.Table.{Table}
use Rattle.rr_game.specs.History.Tables.{kept_in}
use Rattle.rr_tables.specs.Records.Words.{table_in_words}
use Rattle.rr_tables.specs.Tables.{kept_in_box, world_of}
use Rattle.rr_tables.proofs.WordLemmas.{ok_at, written_at}
use Rattle.rr_tables.proofs.tables.Tables.table_at.Goals as goal

pub returns-clause-table : goal.returns-clause-table
returns-clause-table c =
    let name = c.in-Some.name.now in
    let there =
    written_at kept_in_box c.args.self.now.map.entries c.args.place (name, c.in-Some.table.now) (sym c.in-Some.ensures.entry)
    ∙ ap (λ (t : Table). Some (table_in_words (name, kept_in t))) (sym c.deref-in-Some.ensures) in
    ok_at c.write_table.result (map table_in_words (world_of c.args.self.now)) c.args.place _ there c.write_table.ensures.table
