use Rattle.rr_routes.specs.Certificates.{MayUse}
use Rattle.rr_checker.proofs.WalkLemmas.{marked-ends}
use Rattle.rr_checker.proofs.reach.ends_of.Goals as goal

pub returns : goal.returns
returns c net tracks =
    let kept = rw (c.deref.ensures.value, c.deref-2.ensures.value) at c.in_ok-ends.ensures.members in
    marked-ends net (MayUse c.args.fates.now c.args.train) c.args.tracks.now.steps.items c.in_ok-marks.marks.items c.in_ok-ends.ends.items
    ((c.in_ok-marks.ensures {u = tt}) net tracks) kept
