use Rattle.std.proofs.Common.{◌≡◌, length, get_or, sym, ◌∙◌, arith}
use Rattle.rr_checker.specs.Steps.{has_token}
use Rattle.rr_routes.proofs.ReachabilityLemmas.PlaceLemmas.{places_next_yes, places_next_no, places_done}
use Rattle.rr_checker.proofs.PlaceLemmas.{no_step, step_read}
use Rattle.rr_checker.proofs.tracks.starts_of.Goals as goal

pub loop-place-preserved : goal.loop-place-preserved
loop-place-preserved c =
    places_next_yes (λ step. has_token c.args.net.now step.from) c.args.steps.now c.loop-place.place c.loop-place.starts.items _ (get_or c.args.steps.now c.loop-place.place no_step) c.loop-place.invariant c.loop-place-test.true (step_read c.args.steps.now c.loop-place.place c.loop-place-test.true)
    (sym c.has_token.ensures ∙ c.if-not-has_token.false) c.in_ok-push.ensures.items

pub loop-place-preserved-then-not-has_token : goal.loop-place-preserved-then-not-has_token
loop-place-preserved-then-not-has_token c =
    places_next_no (λ step. has_token c.args.net.now step.from) c.args.steps.now c.loop-place.place c.loop-place.starts.items (get_or c.args.steps.now c.loop-place.place no_step) c.loop-place.invariant c.loop-place-test.true (step_read c.args.steps.now c.loop-place.place c.loop-place-test.true)
    (sym c.has_token.ensures ∙ c.if-not-has_token.true)

pub returns : goal.returns
returns c =
    let all : c.loop-place.place ≡ length c.args.steps.now = omega arith in
    places_done (λ step. has_token c.args.net.now step.from) c.args.steps.now c.loop-place.place c.loop-place.starts.items c.loop-place.invariant all
