use Rattle.std.proofs.Common.{◌∙◌, ap, option_map, sym}
use Rattle.rr_game.specs.declared.history.table.Table.{Table}
use Rattle.rr_tables.specs.Records.World.{present_stamp}
use Rattle.rr_tables.specs.Tables.{kept_in_box}
use Rattle.rr_tables.proofs.WorldLemmas.{named_by}
use Rattle.rr_tables.proofs.tables.Tables.stamp.Goals as goal

pub returns-in-Some : goal.returns-in-Some
returns-in-Some c =
    c.stamp.ensures.value ∙ ap (λ (t : Table). t.stamp) c.deref.ensures
    ∙ sym (ap present_stamp (named_by kept_in_box c.args.name.now c.args.self.now.map.entries ∙ ap (option_map kept_in_box) (sym c.in-Some.ensures.value)))

pub returns-in-None : goal.returns-in-None
returns-in-None c =
    sym (ap present_stamp (named_by kept_in_box c.args.name.now c.args.self.now.map.entries ∙ ap (option_map kept_in_box) (sym c.in-None.ensures.value)))
