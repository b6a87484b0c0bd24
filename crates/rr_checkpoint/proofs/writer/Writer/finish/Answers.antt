use Rattle.std.proofs.Common.{◌∙◌, inl, sym, refl, arith, subst}
use Rattle.rr_disk.proofs.MomentLemmas.{started, joins}
use Rattle.rr_images.specs.Layout.{IsEitherRoot, KeepsUnder}
use Rattle.rr_images.proofs.Ticks.{still_root}
use Rattle.rr_checkpoint.specs.Calls.{IsRootAt}
use Rattle.rr_checkpoint.specs.Writer.{place_of, ticks_left_of, free_of}
use Rattle.rr_checkpoint.proofs.Writers.{left_some, lowers_one, none_is_left, renewed_behind, holds_at_first, holds_more, rests_behind, left_under, root_before}
use Rattle.rr_checkpoint.proofs.Working.{on_err}
use Rattle.rr_pages.specs.declared.free_pages.FreePages.{FreePages}
use Rattle.rr_checkpoint.specs.Growing.{AreReclaimed}
use Rattle.rr_checkpoint.proofs.Growing.{free_still, freed_last, never_grows, ticks_grow}
use Rattle.rr_checkpoint.proofs.writer.Writer.finish.Goals as goal

pub loop-self-init : goal.loop-self-init
loop-self-init g c =
    let disk = c.args.disk.now in
    record {
      honest = λ honest. honest;
      works = λ works. works;
      carries = λ honest world carries. (carries, holds_at_first (ticks_left_of c.args.self.now) carries.layout carries.holding);
      stops = λ honest world carries.
          started (g.D.Disk.past disk) (g.D.Disk.state disk) (λ image. KeepsUnder g.C.Codec.codec (IsEitherRoot carries.layout carries.holding) image world)
          (λ image is. record { layout = carries.layout; kept = carries.between.each image is; is_root = inl (still_root carries.layout) });
      renews = λ honest world carries some none. absurd (omega (arith, some, none));
      grows = λ honest world carries. never_grows refl;
      free = λ some. refl;
      frees = λ some none. absurd (omega (arith, some, none));
      rests = λ some none. absurd (omega (arith, some, none));
      number = refl;
      half = refl;
      faults = refl;
      writes = omega arith;
      syncs = omega arith;
    }

pub loop-self-preserved : goal.loop-self-preserved
loop-self-preserved g c =
    let so_far = c.loop-self.invariant in
    let under_way = left_some c.loop-self.self.checkpoint (sym c.is_some.ensures ∙ c.loop-self-test.true) in
    let lowers = lowers_one c.in_ok-tick.field-0 (ticks_left_of c.loop-self.self) (ticks_left_of c.tick.new.self) c.in_ok-tick.ensures.left under_way in
    record {
      honest = λ honest. so_far.honest (c.tick.ensures.honest honest);
      works = λ works. so_far.works (c.tick.ensures.works works);
      carries = λ honest world carries.
          let carried = so_far.carries (c.tick.ensures.honest honest) world carries in
          let then = c.in_ok-tick.ensures.carries honest world carried.0 in (
            then.0,
            holds_more c.in_ok-tick.field-0 (ticks_left_of c.args.self.now) (ticks_left_of c.loop-self.self) (ticks_left_of c.tick.new.self) carries.layout carries.holding carried.0.layout carried.0.holding then.0.layout then.0.holding
                under_way c.in_ok-tick.ensures.left carried.1 then.1,
          );
      stops = λ honest world carries.
          let then = c.tick.ensures.honest honest in
          let carried = so_far.carries then world carries in
          joins (so_far.stops then world carries)
          (left_under g.C.Codec.codec world (IsRootAt (ticks_left_of c.loop-self.self) carried.0.layout carried.0.holding) (IsEitherRoot carries.layout carries.holding)
          (λ layout is. root_before (ticks_left_of c.loop-self.self) carries.layout carries.holding carried.0.layout carried.0.holding layout (carried.1.under_way under_way) is)
          (c.tick.ensures.stops honest world carried.0));
      renews = λ honest world carries some none.
          let carried = so_far.carries (c.tick.ensures.honest honest) world carries in
          renewed_behind g.C.Codec.codec c.in_ok-tick.field-0 (ticks_left_of c.loop-self.self) (ticks_left_of c.tick.new.self) carries.layout carried.0.layout carries.holding carried.0.holding (g.D.Disk.state c.tick.new.disk) world
          c.in_ok-tick.ensures.left under_way none (carried.1.under_way under_way) (c.in_ok-tick.ensures.renews honest world carried.0);
      grows = λ honest world carries.
          let then = c.tick.ensures.honest honest in
          ticks_grow (free_of c.loop-self.self) (free_of c.args.self.now) (g.D.Disk.file_len c.args.disk.now) (g.D.Disk.file_len c.loop-self.disk) (g.D.Disk.file_len c.tick.new.disk) (so_far.free under_way)
          (so_far.grows then world carries) (c.tick.ensures.grows honest world (so_far.carries then world carries).0);
      free = λ more.
          free_still c.in_ok-tick.field-0 (ticks_left_of c.loop-self.self) (ticks_left_of c.tick.new.self) (free_of c.loop-self.self) (free_of c.tick.new.self) c.in_ok-tick.ensures.left more c.in_ok-tick.ensures.frees
          ∙ so_far.free under_way;
      frees = λ some none.
          subst (λ (old : FreePages). AreReclaimed old (free_of c.tick.new.self)) (so_far.free under_way)
          (freed_last c.in_ok-tick.field-0 (ticks_left_of c.loop-self.self) (ticks_left_of c.tick.new.self) (free_of c.loop-self.self) (free_of c.tick.new.self) c.in_ok-tick.ensures.left under_way none c.in_ok-tick.ensures.frees);
      rests = λ some none. rests_behind c.in_ok-tick.field-0 (ticks_left_of c.loop-self.self) (ticks_left_of c.tick.new.self) (place_of c.tick.new.self).begun c.in_ok-tick.ensures.left under_way none c.in_ok-tick.ensures.rests;
      number = c.tick.ensures.number ∙ so_far.number;
      half = c.tick.ensures.half ∙ so_far.half;
      faults = c.in_ok-tick.ensures.fault ∙ so_far.faults;
      writes = omega (arith, c.tick.ensures.writes, so_far.writes, lowers);
      syncs = omega (arith, c.tick.ensures.syncs, so_far.syncs, lowers);
    }

pub returns-in_err-tick-clause-stops : goal.returns-in_err-tick-clause-stops
returns-in_err-tick-clause-stops g c = λ honest world carries.
    let under_way = left_some c.loop-self.self.checkpoint (sym c.is_some.ensures ∙ c.loop-self-test.true) in
    let then = c.tick.ensures.honest honest in
    let carried = c.loop-self.invariant.carries then world carries in
    joins (c.loop-self.invariant.stops then world carries)
    (left_under g.C.Codec.codec world (IsRootAt (ticks_left_of c.loop-self.self) carried.0.layout carried.0.holding) (IsEitherRoot carries.layout carries.holding)
    (λ layout is. root_before (ticks_left_of c.loop-self.self) carries.layout carries.holding carried.0.layout carried.0.holding layout (carried.1.under_way under_way) is)
    (c.tick.ensures.stops honest world carried.0))

pub returns-clause-carries : goal.returns-clause-carries
returns-clause-carries g c = λ honest world carries.
    let then = c.loop-self.invariant.carries honest world carries in
    (then.0, λ some. then.1.done some (none_is_left c.loop-self.self.checkpoint (sym c.is_some.ensures ∙ c.loop-self-test.false)))

pub returns-clause-renews : goal.returns-clause-renews
returns-clause-renews g c = λ honest world carries some.
    c.loop-self.invariant.renews honest world carries some (none_is_left c.loop-self.self.checkpoint (sym c.is_some.ensures ∙ c.loop-self-test.false))

pub returns-clause-rests : goal.returns-clause-rests
returns-clause-rests g c = λ some. c.loop-self.invariant.rests some (none_is_left c.loop-self.self.checkpoint (sym c.is_some.ensures ∙ c.loop-self-test.false))

pub returns-in_err-tick-clause-device : goal.returns-in_err-tick-clause-device
returns-in_err-tick-clause-device g c =
    on_err c.from_residual.result
    (λ honest world carries.
    let then = c.tick.ensures.honest honest in
    c.in_err-tick.ensures.device honest world (c.loop-self.invariant.carries then world carries).0)

pub returns-in_err-tick-clause-grows : goal.returns-in_err-tick-clause-grows
returns-in_err-tick-clause-grows g c = λ honest world carries.
    let so_far = c.loop-self.invariant in
    let under_way = left_some c.loop-self.self.checkpoint (sym c.is_some.ensures ∙ c.loop-self-test.true) in
    let then = c.tick.ensures.honest honest in
    ticks_grow (free_of c.loop-self.self) (free_of c.args.self.now) (g.D.Disk.file_len c.args.disk.now) (g.D.Disk.file_len c.loop-self.disk) (g.D.Disk.file_len c.tick.new.disk) (so_far.free under_way)
    (so_far.grows then world carries) (c.tick.ensures.grows honest world (so_far.carries then world carries).0)

pub returns-in_err-tick-clause-same_free : goal.returns-in_err-tick-clause-same_free
returns-in_err-tick-clause-same_free g c =
    let under_way = left_some c.loop-self.self.checkpoint (sym c.is_some.ensures ∙ c.loop-self-test.true) in
    on_err c.from_residual.result (c.in_err-tick.ensures.same_free ∙ c.loop-self.invariant.free under_way)

pub returns-clause-frees : goal.returns-clause-frees
returns-clause-frees g c = λ some. c.loop-self.invariant.frees some (none_is_left c.loop-self.self.checkpoint (sym c.is_some.ensures ∙ c.loop-self-test.false))
