use Rattle.std.proofs.Common.{◌∙◌, sym}
use Rattle.rr_tables.specs.Tables.{kept_in_box}
use Rattle.rr_tables.proofs.WorldLemmas.{counted_by}
use Rattle.rr_tables.proofs.tables.Tables.count.Goals as goal

pub returns-clause-value : goal.returns-clause-value
returns-clause-value c = c.len.ensures.len ∙ sym (counted_by kept_in_box c.args.self.now.map.entries)
