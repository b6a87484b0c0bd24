use Rattle.std.proofs.Common.{sym, ◌∙◌}
use Rattle.rr_checker.proofs.TripLemmas.{simple_next, simple_broken}
use Rattle.rr_checker.proofs.trips.is_simple.Goals as goal

pub returns-then-has_node : goal.returns-then-has_node
returns-then-has_node c = simple_broken c.args.nodes.now c.loop-place.place c.loop-place-test.true (sym c.has_node.ensures ∙ c.if-has_node.true)

pub loop-place-preserved : goal.loop-place-preserved
loop-place-preserved c = simple_next c.args.nodes.now c.loop-place.place c.loop-place-test.true c.loop-place.invariant (sym c.has_node.ensures ∙ c.if-has_node.false)
