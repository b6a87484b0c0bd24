use Rattle.std.proofs.Common.{◌≡◌, ◌<◌, ℕ, List, length, refl, sym, subst, arith}
use Rattle.std.proofs.lemmas.Result.{err_from_is_err_and}
use Rattle.std.proofs.lemmas.Bool.{iff_false}
use Rattle.rr_disk.specs.Disk.{DiskState}
use Rattle.rr_reading.specs.Lending.Chains.{all_of}
use Rattle.rr_reading.specs.Lending.Commands.{bytes_at}
use Rattle.rr_reading.specs.Lending.Fitting.{links_at}
use Rattle.rr_reading.specs.Lending.Pages.{joined}
use Rattle.rr_store.specs.Recovery.Told.{TellsWords}
use Rattle.rr_store.proofs.RecoveryLemmas.ReadingLemmas.{failed, reads_on, turned, valued}
use Rattle.rr_store.proofs.RecoveryLemmas.TellingLemmas.{left_more, left_none}
use Rattle.rr_store.proofs.recovery.words.tell_words.Goals as goal

content : DiskState → List ℕ
content state = state.content

pub returns-then-not-told-clause-told : goal.returns-then-not-told-clause-told
unfolding content
returns-then-not-told-clause-told g c = λ honest.
    let index = c.loop-index.index in
    let within : index < length c.args.entries.now = omega (arith, c.loop-index-test.true) in
    let all = all_of c.args.chains.now.chains in
    let chain_in : index < length all = omega (arith, within, c.if-entries-chain_count.false, c.chain_count.ensures) in
    let file = (g.D.Disk.state c.args.disk.now).content in
    let now = (g.D.Disk.state c.loop-index.disk).content in
    let before = c.in_ok-told.ensures.only_reads.honest honest in
    let bytes : bytes_at now c.loop-index.chains index ≡ joined file (links_at all index) = λ i. joined (content (c.loop-index.invariant.only_reads.same_state before i)) (links_at (c.loop-index.invariant.only_reads.all i) index) in
    let entry = c.index-entries-index.result in (
      λ h. absurd (cc h),
      λ told.
          absurd (left_none TellsWords file c.args.entries.now all index entry within chain_in c.index-entries-index.is (c.loop-index.invariant.decide before)
          (λ here. iff_false (c.in_ok-told.ensures.told honest) c.if-not-told.true (subst (λ (bs : List ℕ). TellsWords entry bs) (sym bytes) here)) told.1),
    )

pub loop-index-preserved : goal.loop-index-preserved
unfolding content
loop-index-preserved g c =
    let index = c.loop-index.index in
    let within : index < length c.args.entries.now = omega (arith, c.loop-index-test.true) in
    let all = all_of c.args.chains.now.chains in
    let chain_in : index < length all = omega (arith, within, c.if-entries-chain_count.false, c.chain_count.ensures) in
    let file = (g.D.Disk.state c.args.disk.now).content in
    let now = (g.D.Disk.state c.loop-index.disk).content in
    let entry = c.index-entries-index.result in
    record {
      decide = λ honest.
          let before = c.in_ok-told.ensures.only_reads.honest honest in
          let bytes : bytes_at now c.loop-index.chains index ≡ joined file (links_at all index) = λ i. joined (content (c.loop-index.invariant.only_reads.same_state before i)) (links_at (c.loop-index.invariant.only_reads.all i) index) in
          left_more TellsWords file c.args.entries.now all index entry within chain_in c.index-entries-index.is (c.loop-index.invariant.decide before)
          (subst (λ (bs : List ℕ). TellsWords entry bs) bytes ((c.in_ok-told.ensures.told honest).0 c.if-not-told.false));
      only_reads = reads_on c.loop-index.invariant.only_reads (valued c.in_ok-told.ensures.only_reads);
    }

pub returns-then-entries-chain_count-clause-only_reads : goal.returns-then-entries-chain_count-clause-only_reads
returns-then-entries-chain_count-clause-only_reads g c = valued (turned refl refl)

pub returns-in_err-told-clause-only_reads : goal.returns-in_err-told-clause-only_reads
returns-in_err-told-clause-only_reads g c =
    let p = err_from_is_err_and c.from_residual.result c.from_residual.ensures.1 in
    rw (p.1, p.2) (reads_on c.loop-index.invariant.only_reads (failed c.in_err-told.ensures.only_reads))

pub returns-then-not-told-clause-only_reads : goal.returns-then-not-told-clause-only_reads
returns-then-not-told-clause-only_reads g c = reads_on c.loop-index.invariant.only_reads (valued c.in_ok-told.ensures.only_reads)

pub returns-clause-only_reads : goal.returns-clause-only_reads
returns-clause-only_reads g c = valued c.loop-index.invariant.only_reads
