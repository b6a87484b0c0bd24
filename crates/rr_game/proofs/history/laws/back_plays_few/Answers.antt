use Rattle.std.proofs.Common.{length}
use Rattle.rr_game.proofs.HistoryLemmas.Making.{ended_within, kept_at-rises, kept_at-within}
use Rattle.rr_game.proofs.HistoryLemmas.Naming.{few_behind}
use Rattle.rr_game.proofs.history.laws.back_plays_few.Goals as goal

pub returns : goal.returns
returns c = λ kit k table nearest played named above ended is.
    let within = ended_within kit table k played ended in
    few_behind table.kept.snapshots table.game.ends table.floor (length table.kept.commands) k table.game nearest named
    (kept_at-rises kit table.kept.commands table.game table.floor k played.played above within) (kept_at-within kit table k played within) is
