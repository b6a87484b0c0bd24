use Rattle.rr_lay.specs.JudgingLaws.{one_lay_verdict}
use Rattle.rr_lay.proofs.laws.one_verdict_on_a_tile.Goals as goal

pub returns : goal.returns
returns c = one_lay_verdict
