use Rattle.std.proofs.Common.{◌∙◌, ap, arith}
use Rattle.rr_tables.specs.Tables.{kept_in_box, world_by}
use Rattle.rr_tables.proofs.WorldLemmas.{absent_by, by_push, counted_by}
use Rattle.rr_tables.proofs.tables.Tables.put.Goals as goal

pub add-requires : goal.add-requires
add-requires c =
    let entries = c.args.self.now.map.entries in
    record {
      few = omega (arith, c.requires.few, counted_by kept_in_box entries);
      absent = absent_by kept_in_box c.args.name entries c.requires.own_name;
      writable = c.requires.writable;
    }

pub returns-clause-last : goal.returns-clause-last
returns-clause-last c =
    ap (world_by kept_in_box) c.add.ensures.last ∙ by_push kept_in_box c.args.self.now.map.entries (c.args.name, c.args.table)
