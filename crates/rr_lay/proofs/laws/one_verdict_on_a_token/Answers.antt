use Rattle.rr_lay.specs.JudgingLaws.{one_station_verdict}
use Rattle.rr_lay.proofs.laws.one_verdict_on_a_token.Goals as goal

pub returns : goal.returns
returns c = one_station_verdict
