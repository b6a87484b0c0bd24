use Rattle.rr_game.proofs.HistoryLemmas.Turnings.{accepted_turn}
use Rattle.rr_game.proofs.history.laws.accepted_turns_are_kept.Goals as goal

pub returns : goal.returns
returns c = λ kit table stamp request h. accepted_turn kit table stamp request h
