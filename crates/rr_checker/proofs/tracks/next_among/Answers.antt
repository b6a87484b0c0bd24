use Rattle.std.proofs.Common.{◌≤◌, length, sym, ◌∙◌, arith}
use Rattle.std.proofs.lemmas.List.{take_all}
use Rattle.rr_checker.specs.Steps.{follows}
use Rattle.rr_routes.proofs.ReachabilityLemmas.PlaceLemmas.{passing_first, passing_yes, passing_no}
use Rattle.rr_checker.proofs.tracks.next_among.Goals as goal

pub loop-place-init : goal.loop-place-init
loop-place-init c = rw c.new-passing.ensures (passing_first (follows c.args.steps.now c.args.step.now))

pub loop-place-preserved : goal.loop-place-preserved
loop-place-preserved c =
    passing_yes (follows c.args.steps.now c.args.step.now) c.args.places.now c.loop-place.place-index c.loop-place.passing _ c.loop-place-test.true c.loop-place.invariant
    (sym c.follows.ensures ∙ c.if-not-follows.false) c.in_ok-push.ensures.ok

pub loop-place-preserved-then-not-follows : goal.loop-place-preserved-then-not-follows
loop-place-preserved-then-not-follows c =
    passing_no (follows c.args.steps.now c.args.step.now) c.args.places.now c.loop-place.place-index c.loop-place.passing c.loop-place-test.true c.loop-place.invariant
    (sym c.follows.ensures ∙ c.if-not-follows.true)

pub returns : goal.returns
returns c =
    let all : length c.args.places.now ≤ c.loop-place.place-index = omega arith in
    rw (take_all c.loop-place.place-index c.args.places.now all) at c.loop-place.invariant
