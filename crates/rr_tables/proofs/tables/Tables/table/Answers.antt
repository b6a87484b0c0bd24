use Rattle.std.proofs.Common.{◌∙◌, Some, ap, option_map, refl, sym, subst}
use Rattle.rr_game.specs.declared.history.table.Table.{Table}
use Rattle.rr_game.specs.History.Tables.{IsPlayed, kept_in}
use Rattle.rr_tables.specs.Tables.{kept_in_box}
use Rattle.rr_tables.proofs.PlayedTables.{played_at}
use Rattle.rr_tables.proofs.WorldLemmas.{named_by}
use Rattle.rr_tables.proofs.tables.Tables.table.Goals as goal

pub returns-in-Some-clause-value : goal.returns-in-Some-clause-value
returns-in-Some-clause-value c =
    named_by kept_in_box c.args.name.now c.args.self.now.map.entries ∙ ap (option_map kept_in_box) (sym c.in-Some.ensures.value)
    ∙ ap (λ (t : Table). Some (kept_in t)) (sym c.deref.ensures)

pub returns-in-None-clause-value : goal.returns-in-None-clause-value
returns-in-None-clause-value c =
    (refl, named_by kept_in_box c.args.name.now c.args.self.now.map.entries ∙ ap (option_map kept_in_box) (sym c.in-None.ensures.value))

pub returns-in-Some-clause-played : goal.returns-in-Some-clause-played
returns-in-Some-clause-played c = λ all.
    subst (λ (t : Table). IsPlayed c.args.self.now.kit t) (sym c.deref.ensures)
    (played_at c.args.self.now c.args.name.now c.in-Some.table.now (sym c.in-Some.ensures.value) all)
