use Rattle.std.proofs.Common.{◌+◌, [], ◌∷◌, ◌++◌, ◌∙◌, ap, arith}
use Rattle.rr_network.specs.declared.step.Step.{Step}
use Rattle.rr_network.specs.Walk.{steps_from}
use Rattle.rr_network.proofs.StepLemmas.{steps_next, steps_done}
use Rattle.rr_network.proofs.step.steps_of.Goals as goal

pub loop-i-preserved : goal.loop-i-preserved
loop-i-preserved c =
    steps_next c.args.links.now c.loop-i.i c.index-links-i.result (steps_from 1 c.args.links.now) c.loop-i.steps.items c.push.new.self.items c.push-in-loop-i.new.self.items c.loop-i.invariant c.loop-i-test.true c.index-links-i.is
    (c.in_ok-push.ensures.items ∙ ap (λ (s : Step). c.loop-i.steps.items ++ s ∷ []) c.forward.ensures)
    (c.in_ok-push-2.ensures.items ∙ ap (λ (s : Step). c.push.new.self.items ++ s ∷ []) c.backward.ensures)

pub returns : goal.returns
returns c = steps_done c.args.links.now c.loop-i.i (c.loop-i.i + 1) (steps_from 1 c.args.links.now) c.loop-i.steps.items c.loop-i.invariant (omega arith)
