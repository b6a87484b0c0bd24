use Rattle.std.proofs.Common.{List, Bool}
use Rattle.rr_checker.specs.declared.step.Step.{Step}
use Rattle.rr_checker.proofs.WalkLemmas.{AreAllowed, end-marks}
use Rattle.rr_checker.proofs.reach.marks_of.Goals as goal

pub returns : goal.returns
returns c net tracks =
    let steps : List Step = c.args.tracks.now.steps.items in
    let allowed : List Bool = c.in_ok-allowed.allowed.items in
    let free : AreAllowed net c.args.fates.now c.args.train steps allowed = rw c.deref.ensures.value at (c.in_ok-allowed.ensures {u = tt}) in
    let found = rw (c.deref-2.ensures.value, c.deref-3.ensures.value, c.deref-4.ensures.value) at c.in_ok-marks.ensures.reached in
    end-marks net c.args.fates.now c.args.train steps c.args.tracks.now.graph.items c.args.tracks.now.starts.items allowed tracks.walks free c.in_ok-marks.marks.items found
