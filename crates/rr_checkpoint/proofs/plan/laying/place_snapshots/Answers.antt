use Rattle.std.proofs.Common.{◌≡◌, Result, Err, refl, ◌∙◌, ap, arith}
use Rattle.std.specs.Option.{option_copied}
use Rattle.std.proofs.lemmas.Result.{err_from_is_err_and}
use Rattle.rr_checkpoint.specs.Writer.{free_of}
use Rattle.rr_pages.specs.declared.fault.Fault.{Fault}
use Rattle.rr_pages.specs.declared.fault.Fault.TheVariants.{FileFull}
use Rattle.rr_pages.specs.FreePages.{present_of, coming_of}
use Rattle.rr_checkpoint.specs.declared.plan.standing.StandingSnapshot.{StandingSnapshot}
use Rattle.rr_checkpoint.specs.Plan.Snapshots.{snapshot_of}
use Rattle.rr_checkpoint.specs.Plan.Standing.{behind, if_same, place_of}
use Rattle.rr_checkpoint.proofs.PlanLemmas.Frames.{stays, onward}
use Rattle.rr_checkpoint.proofs.PlanLemmas.LaidSnapshots.{none_placed, next_placed, too_few_snapshots}
use Rattle.rr_checkpoint.proofs.PlanLemmas.StandingLemmas.{next_left, stands_there}
use Rattle.rr_reading.specs.Worlds.Spelling.{worlds}
use Rattle.rr_checkpoint.proofs.plan.laying.place_snapshots.Goals as goal

abbrev wrapped : Fault → Result StandingSnapshot Fault
wrapped fault = Err fault

pub loop-snapshot-init : goal.loop-snapshot-init
loop-snapshot-init g c =
    let writer = c.args.writer.now in
    record {
      placed = none_placed (present_of (free_of writer)) (coming_of (free_of writer)) c.args.fresh.now.items c.new-placed.result.items c.new-placed.ensures.items;
      left = refl;
      only = stays (worlds g.R.Rules.rules) writer c.requires;
    }

pub place_snapshot-requires-clause-same : goal.place_snapshot-requires-clause-same
place_snapshot-requires-clause-same g c =
    stands_there (snapshot_of c.snapshot-item.result) c.those_from-rest.result.now (option_copied c.first_if_same-place.result) c.first_if_same-place.ensures

pub returns-in_err-there-clause-full : goal.returns-in_err-there-clause-full
returns-in_err-there-clause-full g c = λ full.
    let p = err_from_is_err_and c.from_residual.result c.from_residual.ensures.1 in
    let is : c.in_err-there.field-0.0 ≡ FileFull = cc (p.1, p.2, full) in
    let writer = c.args.writer.now in
    let now = c.loop-snapshot.writer in
    let part = c.snapshot-item.result in
    let place = option_copied c.first_if_same-place.result in
    let stands : place ≡ place_of c.loop-snapshot.rest.now (snapshot_of part) = c.first_if_same-place.ensures ∙ ap (if_same (snapshot_of part)) c.those_from-rest.ensures in
    too_few_snapshots (present_of (free_of writer)) (present_of (free_of now)) (coming_of (free_of writer)) (coming_of (free_of now)) c.args.fresh.now.items c.loop-snapshot.fresh.items c.args.standing.now c.loop-snapshot.rest.now c.args.snapshots.now c.loop-snapshot.snapshot-index part c.loop-snapshot.placed.items place
    (omega (arith, c.loop-snapshot-test.true)) c.snapshot-item.is c.loop-snapshot.invariant.only.present stands c.loop-snapshot.invariant.left c.loop-snapshot.invariant.placed (c.in_err-there.ensures.full (ap wrapped is))

pub returns-in_err-there-clause-only : goal.returns-in_err-there-clause-only
returns-in_err-there-clause-only g c = onward (worlds g.R.Rules.rules) c.args.writer.now c.loop-snapshot.writer c.place_snapshot.new.writer c.loop-snapshot.invariant.only c.place_snapshot.ensures.only

pub returns-in_err-push-clause-only : goal.returns-in_err-push-clause-only
returns-in_err-push-clause-only g c = onward (worlds g.R.Rules.rules) c.args.writer.now c.loop-snapshot.writer c.place_snapshot.new.writer c.loop-snapshot.invariant.only c.place_snapshot.ensures.only

pub loop-snapshot-preserved : goal.loop-snapshot-preserved
loop-snapshot-preserved g c =
    let writer = c.args.writer.now in
    let now = c.loop-snapshot.writer in
    let next = c.place_snapshot.new.writer in
    let part = c.snapshot-item.result in
    let so_far = c.loop-snapshot.invariant in
    let place = option_copied c.first_if_same-place.result in
    let stands : place ≡ place_of c.loop-snapshot.rest.now (snapshot_of part) = c.first_if_same-place.ensures ∙ ap (if_same (snapshot_of part)) c.those_from-rest.ensures in
    record {
      placed = next_placed (present_of (free_of writer)) (present_of (free_of now)) (coming_of (free_of writer)) (coming_of (free_of now)) (coming_of (free_of next)) c.args.fresh.now.items c.loop-snapshot.fresh.items c.place_snapshot.new.fresh.items c.args.standing.now c.loop-snapshot.rest.now c.args.snapshots.now c.loop-snapshot.snapshot-index part c.loop-snapshot.placed.items c.push.new.self.items c.in_ok-there.there place
          (omega (arith, c.loop-snapshot-test.true)) c.snapshot-item.is so_far.only.present stands so_far.left so_far.placed c.in_ok-there.ensures.placed c.in_ok-push.ensures.items;
      left = next_left c.args.standing.now c.loop-snapshot.rest.now c.those_behind-rest.result.now c.args.snapshots.now c.loop-snapshot.snapshot-index part (omega (arith, c.loop-snapshot-test.true)) c.snapshot-item.is so_far.left
          (c.those_behind-rest.ensures ∙ (λ i. behind (stands i) (c.those_from-rest.ensures i)));
      only = onward (worlds g.R.Rules.rules) writer now next so_far.only c.place_snapshot.ensures.only;
    }
