use Rattle.std.proofs.Common.{refl}
use Rattle.rr_game.proofs.HistoryLemmas.Plays.{turns_played}
use Rattle.rr_game.proofs.HistoryLemmas.Seeing.{judged_alike}
use Rattle.rr_game.proofs.history.laws.played_tables_are_seen.Goals as goal

pub returns-clause-seen : goal.returns-clause-seen
returns-clause-seen c = λ kit table play.
    record { kept = refl; players = play.played.players; standing = play.played.standing; turns = turns_played kit table play }

pub returns-clause-judged : goal.returns-clause-judged
returns-clause-judged c = judged_alike
