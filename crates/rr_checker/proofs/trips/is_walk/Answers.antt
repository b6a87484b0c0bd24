use Rattle.std.proofs.Common.{◌<◌, ◌≤◌, length, sym, ◌∙◌, arith}
use Rattle.rr_checker.proofs.StepLemmas.{yes, no}
use Rattle.rr_checker.proofs.TripLemmas.{nonempty, wrong_count, walk_broken, walk_next, walk_done}
use Rattle.rr_checker.proofs.trips.is_walk.Goals as goal

pub returns-then-nodes-links : goal.returns-then-nodes-links
returns-then-nodes-links c = wrong_count c.args.net.now c.args.links.now c.args.nodes.now (λ same. omega (arith, same))

pub returns-then-not-goes_at : goal.returns-then-not-goes_at
returns-then-not-goes_at c =
    walk_broken c.args.net.now c.args.links.now c.args.nodes.now c.loop-place.place c.loop-place-test.true (no c.goes_at.ensures c.if-not-goes_at.true)

pub loop-place-preserved : goal.loop-place-preserved
loop-place-preserved c =
    walk_next c.args.net.now c.args.links.now c.args.nodes.now c.loop-place.place c.loop-place.invariant (yes c.goes_at.ensures c.if-not-goes_at.false)

pub returns : goal.returns
returns c =
    let all : length c.args.links.now ≤ c.loop-place.place = omega arith in
    let some : 0 < length c.args.links.now = nonempty (length c.args.links.now) (sym c.is_empty.ensures ∙ c.if-is_empty.false) in
    walk_done c.args.net.now c.args.links.now c.args.nodes.now c.loop-place.place all some c.if-nodes-links.false c.loop-place.invariant
