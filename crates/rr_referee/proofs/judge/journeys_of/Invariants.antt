use Rattle.rr_referee.specs.Sheets.{AreLawful}
use Rattle.rr_referee.proofs.judge.journeys_of.Given as goal

abbrev pub invariant-loop-train : goal.invariant-loop-train
invariant-loop-train l = AreLawful l.net l.words l.train l.journeys.items
