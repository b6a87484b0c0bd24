use Rattle.std.proofs.Common.{◌≡◌, ◌<◌, ◌∷◌, ◌++◌, [], List, length, get_or, subst, ◌∙◌, ap, arith}
use Rattle.std.proofs.lemmas.List.{get_or_default}
use Rattle.rr_routes.specs.declared.net.Link.{Link}
use Rattle.rr_checker.specs.declared.step.Step.{Step}
use Rattle.rr_checker.proofs.StepLemmas.{no_link, steps_next, steps_done}
use Rattle.rr_checker.proofs.step.steps_of.Goals as goal

pub loop-place-preserved : goal.loop-place-preserved
loop-place-preserved c =
    let links : List Link = c.links-link-items.result.now in
    let same : links ≡ c.args.net.now.links = c.links-link-items.ensures in
    let link : Link = get_or links c.loop-place.place no_link in
    let inside : c.loop-place.place < length c.args.net.now.links = subst (λ ls. c.loop-place.place < length ls) same c.loop-place-test.true in
    let here : link ≡ get_or c.args.net.now.links c.loop-place.place link =
    subst (λ ls. link ≡ get_or ls c.loop-place.place link) same (get_or_default links c.loop-place.place no_link link c.loop-place-test.true) in
    steps_next c.args.net.now c.loop-place.place c.loop-place.steps.items c.push.new.self.items c.push-in-loop-place.new.self.items link c.loop-place.invariant inside here
    (c.in_ok-push.ensures.items ∙ ap (λ (s : Step). c.loop-place.steps.items ++ s ∷ []) c.forward.ensures)
    (c.in_ok-push-2.ensures.items ∙ ap (λ (s : Step). c.push.new.self.items ++ s ∷ []) c.backward.ensures)

pub returns : goal.returns
returns c =
    let all : c.loop-place.place ≡ length c.args.net.now.links = omega (arith, ap (λ (ls : List Link). length ls) c.links-link-items.ensures) in
    steps_done c.args.net.now c.loop-place.place c.loop-place.steps.items c.loop-place.invariant all
