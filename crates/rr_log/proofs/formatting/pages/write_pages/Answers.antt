use Rattle.std.proofs.Common.{refl, ◌∙◌, ap, arith}
use Rattle.rr_disk.specs.Calls.{account}
use Rattle.rr_disk.specs.Disk.{counted}
use Rattle.rr_disk.proofs.CallLemmas.{on_err}
use Rattle.rr_log.proofs.FormattingLemmas.Calls.{counted_fewer, counted_more, counted_most, counted_none, pages_more, pages_stop}
use Rattle.rr_log.proofs.formatting.pages.write_pages.Goals as goal

pub loop-page-init : goal.loop-page-init
loop-page-init g c =
    record {
      few = omega arith;
      honest = λ honest. honest;
      made = λ honest. refl;
      faults = refl;
      writes = counted_none (g.D.Disk.write_count c.args.disk.now);
      syncs = refl;
      works = λ works. works;
    }

pub loop-page-preserved : goal.loop-page-preserved
loop-page-preserved g c =
    let so_far = c.loop-page.invariant in
    let old = c.args.disk.now in
    record {
      few = omega (arith, c.loop-page-test.true);
      honest = λ honest. so_far.honest (c.write.ensures.honest honest);
      made = λ honest.
          pages_more (account g.D.Disk old) (account g.D.Disk c.loop-page.disk) c.args.fresh.now c.loop-page.page-index c.page-item.result c.from.result c.deref.result.now
          c.loop-page-test.true c.page-item.is c.from.ensures c.deref.ensures.value (so_far.made (c.write.ensures.honest honest)) (account g.D.Disk c.write.new.disk) (c.in_ok-write.ensures.calls honest);
      faults = c.in_ok-write.ensures.fault ∙ so_far.faults;
      writes = counted_more c.loop-page.page-index (g.D.Disk.write_count old) (g.D.Disk.write_count c.write.new.disk) (c.write.ensures.writes ∙ ap counted so_far.writes);
      syncs = c.write.ensures.syncs ∙ so_far.syncs;
      works = λ works. so_far.works (c.write.ensures.works works);
    }

pub returns-in_err-write-clause-stops : goal.returns-in_err-write-clause-stops
returns-in_err-write-clause-stops g c =
    let so_far = c.loop-page.invariant in
    on_err c.from_residual.result
    (λ honest.
    pages_stop (account g.D.Disk c.args.disk.now) (account g.D.Disk c.loop-page.disk) c.args.fresh.now c.loop-page.page-index c.page-item.result c.from.result c.deref.result.now
    c.loop-page-test.true c.page-item.is c.from.ensures c.deref.ensures.value (so_far.made (c.write.ensures.honest honest)) (account g.D.Disk c.write.new.disk) (c.in_err-write.ensures.stops honest))

pub returns-in_err-write-clause-writes : goal.returns-in_err-write-clause-writes
returns-in_err-write-clause-writes g c =
    counted_fewer c.loop-page.page-index _ (g.D.Disk.write_count c.args.disk.now) (g.D.Disk.write_count c.loop-page.disk) (g.D.Disk.write_count c.write.new.disk)
    c.loop-page-test.true c.loop-page.invariant.writes c.write.ensures.writes

pub returns-clause-writes : goal.returns-clause-writes
returns-clause-writes g c =
    omega (arith, c.loop-page.invariant.few, c.loop-page.invariant.writes, counted_most c.loop-page.page-index (g.D.Disk.write_count c.args.disk.now))
