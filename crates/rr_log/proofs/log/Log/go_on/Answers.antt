use Rattle.std.proofs.Common.{inl, ap, arith}
use Rattle.rr_log.proofs.Carried.{last_carries, ticked_carries, ticked_root}
use Rattle.rr_checkpoint.specs.Writer as file
use Rattle.rr_checkpoint.proofs.Growing.{freed_last, grows_by_pages, ticked_grows}
use Rattle.rr_log.proofs.Growing.{any_last, last_few, not_last, still_or_last}
use Rattle.rr_log.proofs.Roots.{ticked_roots}
use Rattle.rr_pages.specs.FreePages.{present_of}
use Rattle.rr_log.specs.Log.{free_of, ticks_left}
use Rattle.rr_log.proofs.log.Log.go_on.Goals as goal

pub returns-in-Ok-clause-carries : goal.returns-in-Ok-clause-carries
returns-in-Ok-clause-carries g c = λ honest whole world carries.
    let log = c.args.self.now in
    ticked_carries g.R.Rules.rules log (g.D.Disk.state log.disk) world carries c.tick.new.disk c.tick.new.self (g.D.Disk.state c.tick.new.disk) c.in-Ok.tick c.requires.under_way
    c.in-Ok.ensures.left c.in-Ok.ensures.rests (c.in-Ok.ensures.carries honest world carries.carried)

pub returns-in-Ok-clause-renewed : goal.returns-in-Ok-clause-renewed
returns-in-Ok-clause-renewed g c = λ whole one honest world carries.
    let log = c.args.self.now in
    last_carries g.R.Rules.rules log (g.D.Disk.state log.disk) world carries c.tick.new.disk c.tick.new.self (g.D.Disk.state c.tick.new.disk) c.in-Ok.tick one
    c.in-Ok.ensures.left c.in-Ok.ensures.rests (c.in-Ok.ensures.carries honest world carries.carried)

pub returns-in-Ok-clause-roots : goal.returns-in-Ok-clause-roots
returns-in-Ok-clause-roots g c = λ whole honest due world carries.
    let log = c.args.self.now in
    ticked_roots g.R.Rules.rules log (g.D.Disk.state log.disk) world carries c.tick.new.disk c.tick.new.self (g.D.Disk.state c.tick.new.disk) due c.in-Ok.tick c.requires.under_way
    c.in-Ok.ensures.left c.in-Ok.ensures.rests (c.in-Ok.ensures.carries honest world carries.carried)

pub returns-in-Err-clause-roots : goal.returns-in-Err-clause-roots
returns-in-Err-clause-roots g c = λ whole honest due world carries. absurd (cc whole)

pub returns-in-Ok-clause-root : goal.returns-in-Ok-clause-root
returns-in-Ok-clause-root g c = λ honest world carries.
    let log = c.args.self.now in
    ticked_root g.R.Rules.rules log (g.D.Disk.state log.disk) world carries c.tick.new.disk c.tick.new.self (g.D.Disk.state c.tick.new.disk) c.in-Ok.tick
    c.in-Ok.ensures.taken (c.in-Ok.ensures.carries honest world carries.carried)

pub returns-in-Err-clause-renewed : goal.returns-in-Err-clause-renewed
returns-in-Err-clause-renewed g c = λ whole one honest world carries. absurd (cc whole)

pub returns-in-Err-clause-device : goal.returns-in-Err-clause-device
returns-in-Err-clause-device g c = λ honest world carries. c.in-Err.ensures.device honest world carries.carried

pub returns-in-Ok-clause-stops : goal.returns-in-Ok-clause-stops
returns-in-Ok-clause-stops g c = λ honest world carries. c.in-Ok.ensures.stops honest world carries.carried

pub returns-in-Ok-clause-renews : goal.returns-in-Ok-clause-renews
returns-in-Ok-clause-renews g c = λ honest world carries. c.in-Ok.ensures.renews honest world carries.carried

pub returns-in-Err-clause-stops : goal.returns-in-Err-clause-stops
returns-in-Err-clause-stops g c = λ honest world carries. c.in-Err.ensures.stops honest world carries.carried

pub returns-in-Ok-clause-grows : goal.returns-in-Ok-clause-grows
returns-in-Ok-clause-grows g c = λ honest world carries.
    let log = c.args.self.now in
    let left = ticks_left log in
    let rest = file.ticks_left_of c.tick.new.self in
    let same = c.in-Ok.ensures.same_len honest world carries.carried in
    record {
      full = ticked_grows c.in-Ok.tick left rest (free_of log) (file.free_of c.tick.new.self) (g.D.Disk.file_len log.disk) (g.D.Disk.file_len c.tick.new.disk)
          c.in-Ok.ensures.left c.in-Ok.ensures.frees (c.in-Ok.ensures.grows honest world carries.carried) same;
      rests = λ whole none. same (last_few c.in-Ok.tick left rest c.in-Ok.ensures.left none);
      ends = λ some few. same few;
      begins = λ none begun. same (omega (arith, none));
    }

pub returns-in-Err-clause-grows : goal.returns-in-Err-clause-grows
returns-in-Err-clause-grows g c = λ honest world carries.
    let log = c.args.self.now in
    let same = c.in-Err.ensures.same_len honest world carries.carried in
    record {
      full = grows_by_pages (free_of log) (file.free_of c.tick.new.self) (g.D.Disk.file_len log.disk) (g.D.Disk.file_len c.tick.new.disk) c.in-Err.ensures.same_free
          (c.in-Err.ensures.grows honest world carries.carried);
      rests = λ whole none. absurd (cc whole);
      ends = λ some few. same few;
      begins = λ none begun. same (omega (arith, none));
    }

pub returns-in-Ok-clause-pages : goal.returns-in-Ok-clause-pages
returns-in-Ok-clause-pages g c =
    let left = ticks_left c.args.self.now in
    let rest = file.ticks_left_of c.tick.new.self in
    let old = free_of c.args.self.now in
    let new = file.free_of c.tick.new.self in
    let taken = still_or_last c.in-Ok.tick left rest old new c.in-Ok.ensures.left c.in-Ok.ensures.frees in
    record {
      resting = λ none. absurd (omega (arith, none, c.requires.under_way));
      under_way = λ more. not_last left old new more taken;
      last = λ one. any_last left old new taken;
      reclaims = λ one none whole. freed_last c.in-Ok.tick left rest old new c.in-Ok.ensures.left c.requires.under_way none c.in-Ok.ensures.frees;
    }

pub returns-in-Err-clause-pages : goal.returns-in-Err-clause-pages
returns-in-Err-clause-pages g c =
    let same = c.in-Err.ensures.same_free in
    record { resting = λ none. ap present_of same; under_way = λ more. same; last = λ one. inl same; reclaims = λ one none whole. absurd (cc whole) }
