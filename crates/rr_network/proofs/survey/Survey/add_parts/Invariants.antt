use Rattle.rr_network.proofs.NetworkLemmas.{IsUnderWay}
use Rattle.rr_network.proofs.survey.Survey.add_parts.Given as goal

abbrev pub invariant-loop-part : goal.invariant-loop-part
invariant-loop-part l = IsUnderWay l.initial.self l.self l.hex l.parts l.part-index l.seen
