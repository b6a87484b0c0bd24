use Rattle.std.proofs.Common.{◌∙◌, bytes_eq, arith}
use Rattle.indexmap.proofs.CallerLemmas.{insert_entry-new}
use Rattle.rr_tables.proofs.Outcomes.{at_ok}
use Rattle.rr_tables.proofs.tables.Tables.add.Goals as goal

pub returns-clause-last : goal.returns-clause-last
returns-clause-last c =
    let room = c.args.self.now.room in
    let few = c.requires.few in
    at_ok _ _ (c.insert.ensures.succeeds (omega arith)) c.insert.ensures.entries
    ∙ insert_entry-new bytes_eq c.args.self.now.map c.args.name c.args.table c.requires.absent
