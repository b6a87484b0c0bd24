use Rattle.std.proofs.Common.{None, Some, sym}
use Rattle.rr_tables.specs.Tables.{kept_in_box}
use Rattle.rr_tables.proofs.WorldLemmas.{named_at}
use Rattle.rr_tables.proofs.tables.Tables.name.Goals as goal

pub returns-in-Some : goal.returns-in-Some
returns-in-Some c =
    sym (named_at kept_in_box c.args.self.now.map.entries c.args.place (Some (c.in-Some.name.now, c.in-Some.field-0-1.now)) (sym c.in-Some.ensures.entry))

pub returns-in-None : goal.returns-in-None
returns-in-None c = sym (named_at kept_in_box c.args.self.now.map.entries c.args.place None (sym c.in-None.ensures.entry))
