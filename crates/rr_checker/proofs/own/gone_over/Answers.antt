use Rattle.std.proofs.Common.{◌≡◌, ◌≤◌, ℕ, false, List, length, replicate, ap, ◌∙◌, arith, rules}
use Rattle.rr_routes.specs.declared.net.Link.{Link}
use Rattle.rr_checker.proofs.OwnLemmas.{over_first, over_past, over_next, over_done}
use Rattle.rr_checker.proofs.own.gone_over.Goals as goal

pub loop-step-init : goal.loop-step-init
loop-step-init c =
    let count = ap (λ (links : List Link). length links) c.links.ensures in
    let none : c.in_ok-marks.marks.items ≡ replicate (length c.args.net.now.links) false =
    c.in_ok-marks.ensures.items_if_clones_equal (λ y e. search rules) ∙ ap (λ (n : ℕ). replicate n false) count in
    rw none (over_first (length c.args.net.now.links))

pub loop-step-preserved : goal.loop-step-preserved
loop-step-preserved c =
    over_next c.args.ends.now c.loop-step.step-index (length c.args.net.now.links) c.loop-step.marks.items c.loop-step-test.true c.loop-step.invariant (omega (arith, c.loop-step.marks.ok.0))

pub loop-step-preserved-then-step-len : goal.loop-step-preserved-then-step-len
loop-step-preserved-then-step-len c =
    over_past c.args.ends.now c.loop-step.step-index (length c.args.net.now.links) c.loop-step.marks.items c.loop-step-test.true c.loop-step.invariant (omega (arith, c.loop-step.marks.ok.0))

pub returns : goal.returns
returns c =
    let all : length c.args.ends.now ≤ c.loop-step.step-index = omega arith in
    over_done c.args.ends.now c.loop-step.step-index (length c.args.net.now.links) c.loop-step.marks.items all c.loop-step.invariant
