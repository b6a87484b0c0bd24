use Rattle.std.proofs.Common.{◌+◌, ◌<◌, ℕ, List, length, ap, refl, sym, subst, ◌∙◌, arith, rules}
use Rattle.std.proofs.lemmas.Result.{err_from_is_err_and}
use Rattle.rr_code.specs.declared.command.Command.{Command}
use Rattle.rr_disk.specs.Disk.{DiskState}
use Rattle.rr_reading.specs.Lending.Commands.{rest_of}
use Rattle.rr_store.specs.Recovery.Kept.{AreWorded}
use Rattle.rr_store.specs.Recovery.Playing.{KeepsFront, KeepsNext, KeepsNoMore}
use Rattle.rr_store.proofs.RecoveryLemmas.KeepingLemmas.{keeps_more, keeps_no_more, keeps_none, worded_none}
use Rattle.rr_store.proofs.RecoveryLemmas.PlayingLemmas.{breaks_so}
use Rattle.rr_store.proofs.RecoveryLemmas.ReadingLemmas.{failed, reads_on, turned, valued}
use Rattle.rr_store.proofs.recovery.playing.keep_first.Goals as goal

content : DiskState → List ℕ
content state = state.content

pub loop-done-init : goal.loop-done-init
loop-done-init g c =
    let bytes = rest_of (g.D.Disk.state c.args.disk.now).content c.args.chains.now in
    record {
      front = λ honest. subst (λ (cs : List Command). KeepsFront bytes cs bytes) (sym c.requires) (keeps_none bytes);
      counted = ap length c.requires;
      worded = subst (λ (cs : List Command). AreWorded cs) (sym c.requires) worded_none;
      snapshots = search rules;
      only_reads = turned refl refl;
    }

pub loop-done-preserved : goal.loop-done-preserved
unfolding content
loop-done-preserved g c =
    let file = (g.D.Disk.state c.args.disk.now).content in
    let bytes = rest_of file c.args.chains.now in
    let old = c.loop-done.chains in
    record {
      front = λ honest.
          let before = c.in_ok-keep_next.ensures.only_reads.honest honest in
          let next = subst (λ (f : List ℕ). KeepsNext f old c.loop-done.kept.commands c.keep_next.new.chains c.keep_next.new.kept.commands) (ap content (c.loop-done.invariant.only_reads.same_state before)) (c.in_ok-keep_next.ensures.next honest) in
          keeps_more file bytes old c.keep_next.new.chains c.loop-done.kept.commands c.keep_next.new.kept.commands (c.loop-done.invariant.front before) next;
      counted = c.in_ok-keep_next.ensures.counted ∙ ap (λ (n : ℕ). n + 1) c.loop-done.invariant.counted;
      worded = c.in_ok-keep_next.ensures.worded c.loop-done.invariant.worded;
      snapshots = c.in_ok-keep_next.ensures.snapshots ∙ c.loop-done.invariant.snapshots;
      only_reads = reads_on c.loop-done.invariant.only_reads (valued c.in_ok-keep_next.ensures.only_reads);
    }

pub returns-in_err-keep_next-clause-refused : goal.returns-in_err-keep_next-clause-refused
unfolding content
returns-in_err-keep_next-clause-refused g c =
    let p = err_from_is_err_and c.from_residual.result c.from_residual.ensures.1 in
    let file = (g.D.Disk.state c.args.disk.now).content in
    let old = c.loop-done.chains in
    let less : length c.loop-done.kept.commands < c.args.count = omega (arith, c.loop-done.invariant.counted, c.loop-done-test.true) in
    rw (p.1, p.2)
    (breaks_so _ c.in_err-keep_next.ensures.refused (λ none honest total few commands holds within.
    let before = c.in_err-keep_next.ensures.only_reads.honest honest in
    let room : length c.loop-done.kept.commands < 4096 = omega (arith, less, few, within) in
    let ends = subst (λ (f : List ℕ). KeepsNoMore (rest_of f old)) (ap content (c.loop-done.invariant.only_reads.same_state before)) (none honest room) in
    keeps_no_more (rest_of file c.args.chains.now) (rest_of file old) total c.args.count c.loop-done.kept.commands commands (c.loop-done.invariant.front before) less within ends holds))

pub returns-in_err-keep_next-clause-only_reads : goal.returns-in_err-keep_next-clause-only_reads
returns-in_err-keep_next-clause-only_reads g c =
    let p = err_from_is_err_and c.from_residual.result c.from_residual.ensures.1 in
    rw (p.1, p.2) (reads_on c.loop-done.invariant.only_reads (failed c.in_err-keep_next.ensures.only_reads))

pub returns-clause-only_reads : goal.returns-clause-only_reads
returns-clause-only_reads g c = valued c.loop-done.invariant.only_reads
