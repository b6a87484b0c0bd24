use Rattle.std.proofs.Common.{◌∙◌, ap}
use Rattle.rr_code.specs.declared.command.Command.TheVariants.{Open}
use Rattle.rr_turns.specs.declared.request.Request.TheVariants.{Play}
use Rattle.rr_tables.specs.Tables.{kept_in_box, world_by}
use Rattle.rr_tables.proofs.WorldLemmas.{world_add}
use Rattle.rr_tables.proofs.tables.Tables.open.Goals as goal

pub returns-clause-world : goal.returns-clause-world
returns-clause-world g c =
    let opens = Play (Open c.args.players.now) in
    ap (world_by kept_in_box) c.add.ensures.last
    ∙ world_add kept_in_box c.args.self.now.kit c.args.name.now c.args.self.now.map.entries c.in_ok-table.table opens c.in_ok-table.ensures.kept c.in_ok-judge_opening.ensures.absent
