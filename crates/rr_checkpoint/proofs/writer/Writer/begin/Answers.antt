use Rattle.std.proofs.Common.{◌∙◌, ◌+◌, None, Some, ap, subst, sym}
use Rattle.rr_pages.specs.declared.root.Root.{Root}
use Rattle.rr_checkpoint.specs.declared.checkpoint.Checkpoint.{Checkpoint}
use Rattle.rr_checkpoint.specs.Holds.{HoldsAsBegun}
use Rattle.rr_checkpoint.specs.OpenFile.{CarriesWith}
use Rattle.rr_checkpoint.specs.Writer.{free_of}
use Rattle.rr_checkpoint.proofs.Records.{none_there}
use Rattle.rr_checkpoint.proofs.Writers.{carries_same, found_may, found_none, none_left}
use Rattle.rr_checkpoint.proofs.Working.{on_err}
use Rattle.rr_checkpoint.proofs.Growing.{never_grows}
use Rattle.rr_checkpoint.proofs.writer.Writer.begin.Goals as goal

pub begin-requires : goal.begin-requires
begin-requires g c = none_there c.args.self.now.file.place.begun (sym c.is_some.ensures ∙ c.if-is_some.false)

pub returns-clause-carries : goal.returns-clause-carries
returns-clause-carries g c = λ honest world carries may.
    let codec = g.C.Codec.codec in
    let writer = c.args.self.now in
    let file = c.begin.new.self in
    let state = g.D.Disk.state c.begin.new.disk in
    let then =
    c.in_ok-begin.ensures.carries honest world
    (carries_same codec writer.file (g.D.Disk.state c.args.disk.now) world writer.checkpoint None (none_left writer.checkpoint c.requires) carries)
    c.args.plan may.holding may.is_plan may.coming (may.next ∙ ap (λ (root : Root). root.number + 1) carries.tells.root) may.packed in
    subst (λ (checkpoint : Checkpoint). (then : CarriesWith codec file (Some checkpoint) state world) × HoldsAsBegun carries.layout may.holding then.layout then.holding) (sym c.new.ensures) then

pub returns-clause-stops : goal.returns-clause-stops
returns-clause-stops g c = λ honest world carries may.
    let writer = c.args.self.now in
    c.in_ok-begin.ensures.stops honest world
    (carries_same g.C.Codec.codec writer.file (g.D.Disk.state c.args.disk.now) world writer.checkpoint None (none_left writer.checkpoint c.requires) carries)

pub returns-in_err-begin-clause-stops : goal.returns-in_err-begin-clause-stops
returns-in_err-begin-clause-stops g c = λ honest world carries may.
    let writer = c.args.self.now in
    c.in_err-begin.ensures.stops honest world
    (carries_same g.C.Codec.codec writer.file (g.D.Disk.state c.args.disk.now) world writer.checkpoint None (none_left writer.checkpoint c.requires) carries)

pub returns-in_err-begin-clause-device : goal.returns-in_err-begin-clause-device
returns-in_err-begin-clause-device g c =
    on_err c.from_residual-in_err-begin.result
    (λ honest world carries may.
    let writer = c.args.self.now in
    c.in_err-begin.ensures.device honest world
    (carries_same g.C.Codec.codec writer.file (g.D.Disk.state c.args.disk.now) world writer.checkpoint None (none_left writer.checkpoint c.requires) carries))

pub returns-in_err-take_up-clause-device : goal.returns-in_err-take_up-clause-device
returns-in_err-take_up-clause-device g c =
    on_err c.from_residual.result
    (λ honest world carries may.
    let writer = c.args.self.now in
    c.in_err-take_up.ensures.device honest world carries
    (found_may g.C.Codec.codec carries.layout (free_of writer) writer.file.place.begun c.args.plan (sym c.is_some.ensures ∙ c.if-is_some.true) may))

pub returns-in_err-take_up-clause-stops : goal.returns-in_err-take_up-clause-stops
returns-in_err-take_up-clause-stops g c = λ honest world carries may.
    let writer = c.args.self.now in
    c.in_err-take_up.ensures.stops honest world carries
    (found_may g.C.Codec.codec carries.layout (free_of writer) writer.file.place.begun c.args.plan (sym c.is_some.ensures ∙ c.if-is_some.true) may)

pub returns-then-is_some-clause-stops : goal.returns-then-is_some-clause-stops
returns-then-is_some-clause-stops g c = λ honest world carries may.
    let writer = c.args.self.now in
    c.in_ok-take_up.ensures.stops honest world carries
    (found_may g.C.Codec.codec carries.layout (free_of writer) writer.file.place.begun c.args.plan (sym c.is_some.ensures ∙ c.if-is_some.true) may)

pub returns-in_err-take_up-clause-grows : goal.returns-in_err-take_up-clause-grows
returns-in_err-take_up-clause-grows g c = λ honest world carries may.
    let writer = c.args.self.now in
    c.in_err-take_up.ensures.grows honest world carries
    (found_may g.C.Codec.codec carries.layout (free_of writer) writer.file.place.begun c.args.plan (sym c.is_some.ensures ∙ c.if-is_some.true) may)

pub returns-then-is_some-clause-grows : goal.returns-then-is_some-clause-grows
returns-then-is_some-clause-grows g c = λ honest world carries may.
    let writer = c.args.self.now in
    c.in_ok-take_up.ensures.grows honest world carries
    (found_may g.C.Codec.codec carries.layout (free_of writer) writer.file.place.begun c.args.plan (sym c.is_some.ensures ∙ c.if-is_some.true) may)

pub returns-in_err-begin-clause-grows : goal.returns-in_err-begin-clause-grows
returns-in_err-begin-clause-grows g c = λ honest world carries may.
    let writer = c.args.self.now in
    never_grows
    (c.in_err-begin.ensures.same_len honest world
    (carries_same g.C.Codec.codec writer.file (g.D.Disk.state c.args.disk.now) world writer.checkpoint None (none_left writer.checkpoint c.requires) carries))

pub returns-clause-grows : goal.returns-clause-grows
returns-clause-grows g c = λ honest world carries may.
    let writer = c.args.self.now in
    never_grows
    (c.in_ok-begin.ensures.same_len honest world
    (carries_same g.C.Codec.codec writer.file (g.D.Disk.state c.args.disk.now) world writer.checkpoint None (none_left writer.checkpoint c.requires) carries))

pub returns-in_err-begin-clause-same_len : goal.returns-in_err-begin-clause-same_len
returns-in_err-begin-clause-same_len g c = λ honest world carries none.
    let writer = c.args.self.now in
    c.in_err-begin.ensures.same_len honest world
    (carries_same g.C.Codec.codec writer.file (g.D.Disk.state c.args.disk.now) world writer.checkpoint None (none_left writer.checkpoint c.requires) carries)

pub returns-clause-same_len : goal.returns-clause-same_len
returns-clause-same_len g c = λ honest world carries none.
    let writer = c.args.self.now in
    c.in_ok-begin.ensures.same_len honest world
    (carries_same g.C.Codec.codec writer.file (g.D.Disk.state c.args.disk.now) world writer.checkpoint None (none_left writer.checkpoint c.requires) carries)

pub returns-in_err-take_up-clause-same_len : goal.returns-in_err-take_up-clause-same_len
returns-in_err-take_up-clause-same_len g c = λ honest world carries none.
    absurd (found_none c.args.self.now.file.place.begun (sym c.is_some.ensures ∙ c.if-is_some.true) none)

pub returns-then-is_some-clause-same_len : goal.returns-then-is_some-clause-same_len
returns-then-is_some-clause-same_len g c = λ honest world carries none.
    absurd (found_none c.args.self.now.file.place.begun (sym c.is_some.ensures ∙ c.if-is_some.true) none)
