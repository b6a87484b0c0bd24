use Rattle.std.proofs.Common.{refl, ◌∙◌, ◌+◌, ◌-◌, ap, arith}
use Rattle.rr_disk.specs.Calls.{account}
use Rattle.rr_disk.specs.Disk.{counted, counted_by}
use Rattle.rr_disk.proofs.CallLemmas.{on_err}
use Rattle.rr_log.specs.Formatting.Calls.{zeros_from}
use Rattle.rr_log.proofs.FormattingLemmas.Calls.{counted_fewer, counted_more, counted_most, counted_none, length-zeros_from, made_all, zeros_more, zeros_stop}
use Rattle.rr_log.proofs.formatting.pages.write_journal.Goals as goal

pub loop-page-init : goal.loop-page-init
loop-page-init g c =
    record {
      low = omega arith;
      high = omega arith;
      honest = λ honest. honest;
      made = λ honest. refl;
      faults = refl;
      writes = counted_none (g.D.Disk.write_count c.args.disk.now);
      syncs = refl;
      works = λ works. works;
    }

pub loop-page-preserved : goal.loop-page-preserved
loop-page-preserved g c =
    let so_far = c.loop-page.invariant in
    let old = c.args.disk.now in
    record {
      low = omega (arith, so_far.low);
      high = omega (arith, c.loop-page-test.true);
      honest = λ honest. so_far.honest (c.write.ensures.honest honest);
      made = λ honest.
          zeros_more (account g.D.Disk old) (account g.D.Disk c.loop-page.disk) c.loop-page.page c.from.result c.args.zeros.now so_far.low c.loop-page-test.true c.from.ensures c.requires.zeros
          (so_far.made (c.write.ensures.honest honest)) (account g.D.Disk c.write.new.disk) (c.in_ok-write.ensures.calls honest);
      faults = c.in_ok-write.ensures.fault ∙ so_far.faults;
      writes =
          counted_more (c.loop-page.page - 2) (g.D.Disk.write_count old) (g.D.Disk.write_count c.write.new.disk) (c.write.ensures.writes ∙ ap counted so_far.writes)
          ∙ ap (λ count. counted_by count (g.D.Disk.write_count old)) {x = c.loop-page.page - 2 + 1} {y = c.loop-page.page + 1 - 2} (omega (arith, so_far.low));
      syncs = c.write.ensures.syncs ∙ so_far.syncs;
      works = λ works. so_far.works (c.write.ensures.works works);
    }

pub returns-in_err-write-clause-stops : goal.returns-in_err-write-clause-stops
returns-in_err-write-clause-stops g c =
    let so_far = c.loop-page.invariant in
    on_err c.from_residual.result
    (λ honest.
    zeros_stop (account g.D.Disk c.args.disk.now) (account g.D.Disk c.loop-page.disk) c.loop-page.page c.from.result c.args.zeros.now so_far.low c.loop-page-test.true c.from.ensures c.requires.zeros
    (so_far.made (c.write.ensures.honest honest)) (account g.D.Disk c.write.new.disk) (c.in_err-write.ensures.stops honest))

pub returns-in_err-write-clause-honest : goal.returns-in_err-write-clause-honest
returns-in_err-write-clause-honest g c = λ honest. c.loop-page.invariant.honest (c.write.ensures.honest honest)

pub returns-in_err-write-clause-writes : goal.returns-in_err-write-clause-writes
returns-in_err-write-clause-writes g c =
    counted_fewer (c.loop-page.page - 2) 512 (g.D.Disk.write_count c.args.disk.now) (g.D.Disk.write_count c.loop-page.disk) (g.D.Disk.write_count c.write.new.disk)
    (omega (arith, c.loop-page-test.true, c.loop-page.invariant.low)) c.loop-page.invariant.writes c.write.ensures.writes

pub returns-in_err-write-clause-refused : goal.returns-in_err-write-clause-refused
returns-in_err-write-clause-refused g c =
    on_err c.from_residual.result
    (λ works. absurd (omega (arith, c.in_err-write.ensures.refused works, c.requires.whole, c.loop-page-test.true, c.from.ensures)))

pub returns-clause-calls : goal.returns-clause-calls
returns-clause-calls g c = λ honest.
    made_all (account g.D.Disk c.args.disk.now) (account g.D.Disk c.loop-page.disk) (zeros_from 2 512) (c.loop-page.page - 2)
    (omega (arith, length-zeros_from 2 512, c.loop-page-test.false)) (c.loop-page.invariant.made honest)

pub returns-clause-writes : goal.returns-clause-writes
returns-clause-writes g c =
    omega (arith, c.loop-page.invariant.high, c.loop-page.invariant.low, c.loop-page.invariant.writes, counted_most (c.loop-page.page - 2) (g.D.Disk.write_count c.args.disk.now))
