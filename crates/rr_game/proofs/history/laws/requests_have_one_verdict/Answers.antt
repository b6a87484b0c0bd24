use Rattle.rr_game.proofs.HistoryLemmas.Judging.{request_one}
use Rattle.rr_game.proofs.history.laws.requests_have_one_verdict.Goals as goal

pub returns : goal.returns
returns c = λ kit table stamp request. request_one c.commands_have_one_verdict.ensures kit table stamp request
