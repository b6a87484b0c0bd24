use Rattle.std.proofs.Common.{ap, sym}
use Rattle.rr_game.specs.History.Snapshots.{least_named}
use Rattle.rr_game.proofs.HistoryLemmas.Making.{none_kept}
use Rattle.rr_game.proofs.history.table.Table.least_snapshot.Goals as goal

pub returns-in-None : goal.returns-in-None
returns-in-None c = ap least_named (sym (none_kept c.args.self.now.game.ends c.args.floor (sym c.in-None.ensures.value)))
