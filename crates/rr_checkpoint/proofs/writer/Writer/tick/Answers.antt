use Rattle.std.proofs.Common.{◌∙◌, ℕ, inl, Some, refl, sym, ap, subst, ◌≤◌, Option}
use Rattle.rr_disk.proofs.MomentLemmas.{started}
use Rattle.rr_images.specs.Layout.{KeepsUnder}
use Rattle.rr_images.proofs.Ticks.{still_root}
use Rattle.rr_checkpoint.specs.Calls.{IsRootAt, LeavesKept}
use Rattle.rr_checkpoint.specs.declared.writer.Tick.{Tick}
use Rattle.rr_checkpoint.specs.Holds.{HoldsAt, RestsAt}
use Rattle.rr_checkpoint.specs.Writer.{RenewsAt, StaysTakenAt, ticks_left_of}
use Rattle.rr_checkpoint.proofs.Writers.{carries_same, holds_told, never_none, renews_told, rests_told, taken_told}
use Rattle.rr_checkpoint.proofs.Working.{on_err}
use Rattle.rr_checkpoint.specs.declared.checkpoint.Checkpoint.{Checkpoint}
use Rattle.rr_checkpoint.specs.Checkpoint.{left_of}
use Rattle.rr_checkpoint.proofs.writer.Writer.tick.Goals as goal

pub returns-in-None-clause-stops : goal.returns-in-None-clause-stops
returns-in-None-clause-stops g c = λ honest world carries.
    let disk = c.args.disk.now in
    started (g.D.Disk.past disk) (g.D.Disk.state disk) (λ image. KeepsUnder g.C.Codec.codec (IsRootAt (ticks_left_of c.args.self.now) carries.layout carries.holding) image world)
    (λ image is. record { layout = carries.layout; kept = carries.between.each image is; is_root = inl (still_root carries.layout) })

pub returns-in_ok-self-in-Some-clause-stops : goal.returns-in_ok-self-in-Some-clause-stops
returns-in_ok-self-in-Some-clause-stops g c = λ honest world carries.
    let codec = g.C.Codec.codec in
    let writer = c.args.self.now in
    let disk = c.args.disk.now in
    let new = c.advance.new.disk in
    let under_way = sym c.take.ensures.value ∙ c.in-Some.is in
    subst (λ (left : ℕ). LeavesKept codec (IsRootAt left carries.layout carries.holding) (g.D.Disk.past disk) (g.D.Disk.state disk) (g.D.Disk.past new) (g.D.Disk.state new) world) (ap left_of (sym under_way))
    (c.in_ok-self-in-Some.ensures.stops honest world (carries_same codec writer.file (g.D.Disk.state disk) world writer.checkpoint (Some c.in-Some.checkpoint) under_way carries))

pub returns-in_err-self-in-Some-clause-stops : goal.returns-in_err-self-in-Some-clause-stops
returns-in_err-self-in-Some-clause-stops g c = λ honest world carries.
    let codec = g.C.Codec.codec in
    let writer = c.args.self.now in
    let disk = c.args.disk.now in
    let new = c.advance.new.disk in
    let under_way = sym c.take.ensures.value ∙ c.in-Some.is in
    subst (λ (left : ℕ). LeavesKept codec (IsRootAt left carries.layout carries.holding) (g.D.Disk.past disk) (g.D.Disk.state disk) (g.D.Disk.past new) (g.D.Disk.state new) world) (ap left_of (sym under_way))
    (c.in_err-self-in-Some.ensures.stops honest world (carries_same codec writer.file (g.D.Disk.state disk) world writer.checkpoint (Some c.in-Some.checkpoint) under_way carries))

pub returns-in_ok-self-in-Some-clause-renews : goal.returns-in_ok-self-in-Some-clause-renews
returns-in_ok-self-in-Some-clause-renews g c = λ honest world carries.
    let codec = g.C.Codec.codec in
    let writer = c.args.self.now in
    let state = g.D.Disk.state c.args.disk.now in
    let next = c.in_ok-self-in-Some.field-0 in
    let new = g.D.Disk.state c.advance.new.disk in
    let under_way = sym c.take.ensures.value ∙ c.in-Some.is in
    let with_it = carries_same codec writer.file state world writer.checkpoint (Some c.in-Some.checkpoint) under_way carries in
    subst (λ (tick : Tick). RenewsAt codec tick carries.layout new world) (sym c.told.ensures)
    (renews_told codec carries.layout next new world (c.in_ok-self-in-Some.ensures.renews honest world with_it))

pub returns-in_ok-self-in-Some-clause-taken : goal.returns-in_ok-self-in-Some-clause-taken
returns-in_ok-self-in-Some-clause-taken g c =
    let old = c.args.self.now.file.taken in
    let new = c.advance.new.self.taken in
    subst (λ (tick : Tick). StaysTakenAt tick old new) (sym c.told.ensures) (taken_told c.in_ok-self-in-Some.field-0 old new c.in_ok-self-in-Some.ensures.taken)

pub returns-in-None-clause-carries : goal.returns-in-None-clause-carries
returns-in-None-clause-carries g c = λ honest world carries.
    let codec = g.C.Codec.codec in
    let writer = c.args.self.now in
    let state = g.D.Disk.state c.args.disk.now in
    let resting = (sym c.take.ensures.value ∙ c.in-None.is) ∙ sym c.take.ensures.after in (
      carries_same codec writer.file state world writer.checkpoint c.take.new.self resting carries,
      record { root = refl; base = refl; present = refl; coming = refl; middle = refl; far = refl },
    )

pub returns-in_ok-self-in-Some-clause-carries : goal.returns-in_ok-self-in-Some-clause-carries
returns-in_ok-self-in-Some-clause-carries g c = λ honest world carries.
    let codec = g.C.Codec.codec in
    let writer = c.args.self.now in
    let state = g.D.Disk.state c.args.disk.now in
    let next = c.in_ok-self-in-Some.field-0 in
    let under_way = sym c.take.ensures.value ∙ c.in-Some.is in
    let with_it = carries_same codec writer.file state world writer.checkpoint (Some c.in-Some.checkpoint) under_way carries in
    let then = c.in_ok-self-in-Some.ensures.carries honest world with_it in (
      then.0,
      subst (λ (tick : Tick). HoldsAt tick carries.layout carries.holding then.0.layout then.0.holding) (sym c.told.ensures)
          (holds_told next carries.layout carries.holding then.0.layout then.0.holding then.1),
    )

pub returns-in_ok-self-in-Some-clause-rests : goal.returns-in_ok-self-in-Some-clause-rests
returns-in_ok-self-in-Some-clause-rests g c =
    let begun = c.advance.new.self.place.begun in
    subst (λ (tick : Tick). RestsAt tick begun) (sym c.told.ensures) (rests_told c.in_ok-self-in-Some.field-0 begun c.in_ok-self-in-Some.ensures.rests)

pub returns-in_err-self-in-Some-clause-device : goal.returns-in_err-self-in-Some-clause-device
returns-in_err-self-in-Some-clause-device g c =
    on_err c.from_residual.result
    (λ honest world carries.
    let writer = c.args.self.now in
    let under_way = sym c.take.ensures.value ∙ c.in-Some.is in
    c.in_err-self-in-Some.ensures.device honest world
    (carries_same g.C.Codec.codec writer.file (g.D.Disk.state c.args.disk.now) world writer.checkpoint (Some c.in-Some.checkpoint) under_way carries))

pub returns-in-None-clause-same : goal.returns-in-None-clause-same
returns-in-None-clause-same g c = λ none.
    let writer = c.args.self.now in
    let resting = (sym c.take.ensures.value ∙ c.in-None.is) ∙ sym c.take.ensures.after in
    λ i. record { file = writer.file; checkpoint = sym resting i }

pub returns-in_ok-self-in-Some-clause-same : goal.returns-in_ok-self-in-Some-clause-same
returns-in_ok-self-in-Some-clause-same g c = λ none. absurd (never_none c.args.self.now.checkpoint c.in-Some.checkpoint (sym c.take.ensures.value ∙ c.in-Some.is) none)

pub returns-in_err-self-in-Some-clause-same : goal.returns-in_err-self-in-Some-clause-same
returns-in_err-self-in-Some-clause-same g c = λ none. absurd (never_none c.args.self.now.checkpoint c.in-Some.checkpoint (sym c.take.ensures.value ∙ c.in-Some.is) none)

pub returns-in_ok-self-in-Some-clause-no_call : goal.returns-in_ok-self-in-Some-clause-no_call
returns-in_ok-self-in-Some-clause-no_call g c = λ none. absurd (never_none c.args.self.now.checkpoint c.in-Some.checkpoint (sym c.take.ensures.value ∙ c.in-Some.is) none)

pub returns-in_err-self-in-Some-clause-no_call : goal.returns-in_err-self-in-Some-clause-no_call
returns-in_err-self-in-Some-clause-no_call g c = λ none. absurd (never_none c.args.self.now.checkpoint c.in-Some.checkpoint (sym c.take.ensures.value ∙ c.in-Some.is) none)

pub returns-in_ok-self-in-Some-clause-grows : goal.returns-in_ok-self-in-Some-clause-grows
returns-in_ok-self-in-Some-clause-grows g c = λ honest world carries.
    let writer = c.args.self.now in
    let under_way = sym c.take.ensures.value ∙ c.in-Some.is in
    c.in_ok-self-in-Some.ensures.grows honest world
    (carries_same g.C.Codec.codec writer.file (g.D.Disk.state c.args.disk.now) world writer.checkpoint (Some c.in-Some.checkpoint) under_way carries)

pub returns-in_err-self-in-Some-clause-grows : goal.returns-in_err-self-in-Some-clause-grows
returns-in_err-self-in-Some-clause-grows g c = λ honest world carries.
    let writer = c.args.self.now in
    let under_way = sym c.take.ensures.value ∙ c.in-Some.is in
    c.in_err-self-in-Some.ensures.grows honest world
    (carries_same g.C.Codec.codec writer.file (g.D.Disk.state c.args.disk.now) world writer.checkpoint (Some c.in-Some.checkpoint) under_way carries)

pub returns-in_ok-self-in-Some-clause-same_len : goal.returns-in_ok-self-in-Some-clause-same_len
returns-in_ok-self-in-Some-clause-same_len g c = λ honest world carries few.
    let writer = c.args.self.now in
    let under_way = sym c.take.ensures.value ∙ c.in-Some.is in
    c.in_ok-self-in-Some.ensures.same_len honest world
    (carries_same g.C.Codec.codec writer.file (g.D.Disk.state c.args.disk.now) world writer.checkpoint (Some c.in-Some.checkpoint) under_way carries)
    (subst (λ (checkpoint : Option Checkpoint). left_of checkpoint ≤ 3) under_way few)

pub returns-in_err-self-in-Some-clause-same_len : goal.returns-in_err-self-in-Some-clause-same_len
returns-in_err-self-in-Some-clause-same_len g c = λ honest world carries few.
    let writer = c.args.self.now in
    let under_way = sym c.take.ensures.value ∙ c.in-Some.is in
    c.in_err-self-in-Some.ensures.same_len honest world
    (carries_same g.C.Codec.codec writer.file (g.D.Disk.state c.args.disk.now) world writer.checkpoint (Some c.in-Some.checkpoint) under_way carries)
    (subst (λ (checkpoint : Option Checkpoint). left_of checkpoint ≤ 3) under_way few)
