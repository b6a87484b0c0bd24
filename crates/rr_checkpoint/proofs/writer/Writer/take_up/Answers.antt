use Rattle.std.proofs.Common.{◌≡◌, ◌∙◌, ◌+◌, length, None, Some, ap, sym, arith}
use Rattle.rr_pages.specs.declared.root.Root.{Root}
use Rattle.rr_checkpoint.specs.declared.checkpoint.Checkpoint.{Checkpoint}
use Rattle.rr_images.specs.Layout.{IsSameRoot}
use Rattle.rr_checkpoint.specs.Calls.{IsRootAt}
use Rattle.rr_checkpoint.specs.Checkpoint.{begun, left_of}
use Rattle.rr_checkpoint.proofs.Records.{found_carries}
use Rattle.rr_checkpoint.proofs.Writers.{begun_on, begun_taken, carries_same, left_under, none_left, root_begun}
use Rattle.rr_checkpoint.proofs.Working.{on_err}
use Rattle.rr_checkpoint.proofs.writer.Writer.take_up.Goals as goal

pub returns-clause-carries : goal.returns-clause-carries
returns-clause-carries g c = λ honest world carries may.
    let codec = g.C.Codec.codec in
    let writer = c.args.self.now in
    let state = g.D.Disk.state c.args.disk.now in
    let stays = g.met.D.Disk.content_may_stay c.args.disk.now (c.in_ok-self.ensures.honest honest) in
    let resting = carries_same codec writer.file state world writer.checkpoint None (none_left writer.checkpoint c.requires.resting) carries in
    let found = found_carries codec writer.file state world stays resting c.args.plan may.holding may.is_plan may.coming (may.next ∙ ap (λ (root : Root). root.number + 1) carries.tells.root) may.packed c.requires.found in
    let with_it = carries_same codec writer.file state world (Some (begun c.args.plan)) (Some c.new-begun.result) (ap (λ (checkpoint : Checkpoint). Some checkpoint) (sym c.new-begun.ensures)) found.0 in
    let then = c.in_ok-self.ensures.carries honest world with_it in
    let left : left_of (Some (begun c.args.plan)) ≡ left_of c.in_ok-self.field-0 + 1 =
    ap (λ (checkpoint : Checkpoint). left_of (Some checkpoint)) (sym c.new-begun.ensures) ∙ c.in_ok-self.ensures.left in (
      then.0,
      begun_on c.in_ok-self.field-0 (length c.args.plan.fresh.items) carries.layout may.holding found.0.layout found.0.holding then.0.layout then.0.holding (omega (arith, left)) found.1 then.1,
    )

pub returns-clause-stops : goal.returns-clause-stops
returns-clause-stops g c = λ honest world carries may.
    let codec = g.C.Codec.codec in
    let writer = c.args.self.now in
    let state = g.D.Disk.state c.args.disk.now in
    let stays = g.met.D.Disk.content_may_stay c.args.disk.now (c.in_ok-self.ensures.honest honest) in
    let resting = carries_same codec writer.file state world writer.checkpoint None (none_left writer.checkpoint c.requires.resting) carries in
    let found = found_carries codec writer.file state world stays resting c.args.plan may.holding may.is_plan may.coming (may.next ∙ ap (λ (root : Root). root.number + 1) carries.tells.root) may.packed c.requires.found in
    let with_it = carries_same codec writer.file state world (Some (begun c.args.plan)) (Some c.new-begun.result) (ap (λ (checkpoint : Checkpoint). Some checkpoint) (sym c.new-begun.ensures)) found.0 in
    let left : left_of (Some c.new-begun.result) ≡ left_of (Some (begun c.args.plan)) = ap (λ (checkpoint : Checkpoint). left_of (Some checkpoint)) c.new-begun.ensures in
    left_under codec world (IsRootAt (left_of (Some c.new-begun.result)) found.0.layout found.0.holding) (IsSameRoot carries.layout)
    (λ layout is. root_begun (left_of (Some c.new-begun.result)) carries.layout may.holding found.0.layout found.0.holding layout (omega (arith, left)) found.1 is)
    (c.in_ok-self.ensures.stops honest world with_it)

pub returns-in_err-self-clause-stops : goal.returns-in_err-self-clause-stops
returns-in_err-self-clause-stops g c = λ honest world carries may.
    let codec = g.C.Codec.codec in
    let writer = c.args.self.now in
    let state = g.D.Disk.state c.args.disk.now in
    let stays = g.met.D.Disk.content_may_stay c.args.disk.now (c.in_err-self.ensures.honest honest) in
    let resting = carries_same codec writer.file state world writer.checkpoint None (none_left writer.checkpoint c.requires.resting) carries in
    let found = found_carries codec writer.file state world stays resting c.args.plan may.holding may.is_plan may.coming (may.next ∙ ap (λ (root : Root). root.number + 1) carries.tells.root) may.packed c.requires.found in
    let with_it = carries_same codec writer.file state world (Some (begun c.args.plan)) (Some c.new-begun.result) (ap (λ (checkpoint : Checkpoint). Some checkpoint) (sym c.new-begun.ensures)) found.0 in
    let left : left_of (Some c.new-begun.result) ≡ left_of (Some (begun c.args.plan)) = ap (λ (checkpoint : Checkpoint). left_of (Some checkpoint)) c.new-begun.ensures in
    left_under codec world (IsRootAt (left_of (Some c.new-begun.result)) found.0.layout found.0.holding) (IsSameRoot carries.layout)
    (λ layout is. root_begun (left_of (Some c.new-begun.result)) carries.layout may.holding found.0.layout found.0.holding layout (omega (arith, left)) found.1 is)
    (c.in_err-self.ensures.stops honest world with_it)

pub returns-in_err-self-clause-device : goal.returns-in_err-self-clause-device
returns-in_err-self-clause-device g c =
    on_err c.from_residual.result
    (λ honest world carries may.
    let codec = g.C.Codec.codec in
    let writer = c.args.self.now in
    let state = g.D.Disk.state c.args.disk.now in
    let stays = g.met.D.Disk.content_may_stay c.args.disk.now (c.in_err-self.ensures.honest honest) in
    let resting = carries_same codec writer.file state world writer.checkpoint None (none_left writer.checkpoint c.requires.resting) carries in
    let found = found_carries codec writer.file state world stays resting c.args.plan may.holding may.is_plan may.coming (may.next ∙ ap (λ (root : Root). root.number + 1) carries.tells.root) may.packed c.requires.found in
    c.in_err-self.ensures.device honest world
    (carries_same codec writer.file state world (Some (begun c.args.plan)) (Some c.new-begun.result) (ap (λ (checkpoint : Checkpoint). Some checkpoint) (sym c.new-begun.ensures)) found.0))

pub returns-clause-taken : goal.returns-clause-taken
returns-clause-taken g c =
    let left : left_of (Some (begun c.args.plan)) ≡ left_of c.in_ok-self.field-0 + 1 =
    ap (λ (checkpoint : Checkpoint). left_of (Some checkpoint)) (sym c.new-begun.ensures) ∙ c.in_ok-self.ensures.left in
    begun_taken c.in_ok-self.field-0 (length c.args.plan.fresh.items) c.args.self.now.file.taken c.advance.new.self.taken (omega (arith, left)) c.in_ok-self.ensures.taken

pub returns-clause-grows : goal.returns-clause-grows
returns-clause-grows g c = λ honest world carries may.
    let codec = g.C.Codec.codec in
    let writer = c.args.self.now in
    let state = g.D.Disk.state c.args.disk.now in
    let stays = g.met.D.Disk.content_may_stay c.args.disk.now (c.in_ok-self.ensures.honest honest) in
    let resting = carries_same codec writer.file state world writer.checkpoint None (none_left writer.checkpoint c.requires.resting) carries in
    let found = found_carries codec writer.file state world stays resting c.args.plan may.holding may.is_plan may.coming (may.next ∙ ap (λ (root : Root). root.number + 1) carries.tells.root) may.packed c.requires.found in
    c.in_ok-self.ensures.grows honest world
    (carries_same codec writer.file state world (Some (begun c.args.plan)) (Some c.new-begun.result) (ap (λ (checkpoint : Checkpoint). Some checkpoint) (sym c.new-begun.ensures)) found.0)

pub returns-in_err-self-clause-grows : goal.returns-in_err-self-clause-grows
returns-in_err-self-clause-grows g c = λ honest world carries may.
    let codec = g.C.Codec.codec in
    let writer = c.args.self.now in
    let state = g.D.Disk.state c.args.disk.now in
    let stays = g.met.D.Disk.content_may_stay c.args.disk.now (c.in_err-self.ensures.honest honest) in
    let resting = carries_same codec writer.file state world writer.checkpoint None (none_left writer.checkpoint c.requires.resting) carries in
    let found = found_carries codec writer.file state world stays resting c.args.plan may.holding may.is_plan may.coming (may.next ∙ ap (λ (root : Root). root.number + 1) carries.tells.root) may.packed c.requires.found in
    c.in_err-self.ensures.grows honest world
    (carries_same codec writer.file state world (Some (begun c.args.plan)) (Some c.new-begun.result) (ap (λ (checkpoint : Checkpoint). Some checkpoint) (sym c.new-begun.ensures)) found.0)
