use Rattle.std.proofs.Common.{◌≡◌, ◌-◌, ℕ, List, [], ap, subst, arith}
use Rattle.std.proofs.lemmas.Result.{err_from_is_err_and}
use Rattle.std.proofs.lemmas.Bool.{eqb-true, eq-eqb}
use Rattle.rr_disk.specs.Disk.{DiskState}
use Rattle.rr_reading.specs.Lending.Commands.{bytes_at, rest_of}
use Rattle.rr_store.specs.declared.recovery.words.Next.{Next}
use Rattle.rr_store.specs.declared.recovery.words.Next.TheVariants.{Spelled, Unspelled, End, Cut}
use Rattle.rr_store.specs.Recovery.Spelling.{ReadsWords}
use Rattle.rr_store.proofs.RecoveryLemmas.ReadingLemmas.{failed, reads_on, turned, valued}
use Rattle.rr_store.proofs.RecoveryLemmas.WordLemmas.{spells_more, spells_none, words_all, words_cut, words_end, words_other, words_past}
use Rattle.rr_store.proofs.recovery.words.tells_words.Goals as goal

content : DiskState → List ℕ
content state = state.content

pub commands-init : goal.commands-init
commands-init g c =
    let file = (g.D.Disk.state c.args.disk.now).content in
    record {
      spells = λ honest. spells_none (bytes_at file c.args.chains.now c.args.index) (rest_of file c.turn_to.new.self) c.args.entry.now.kept (c.turn_to.ensures.rest file);
      only_reads = turned c.turn_to.ensures.all c.turn_to.ensures.pages;
    }

pub returns-then-left-eq0-clause-told : goal.returns-then-left-eq0-clause-told
unfolding content
returns-then-left-eq0-clause-told g c = λ honest.
    let file = (g.D.Disk.state c.args.disk.now).content in
    let old = c.commands.chains in
    let before = c.in_ok-next.ensures.only_reads.honest honest in
    let next : ReadsWords (g.D.Disk.state c.commands.disk).content old Spelled c.read_words.new.chains =
    subst (λ (n : Next). ReadsWords (g.D.Disk.state c.commands.disk).content old n c.read_words.new.chains) c.in-Spelled.is (c.in_ok-next.ensures.reads honest) in
    let passed = subst (λ (f : List ℕ). ReadsWords f old Spelled c.read_words.new.chains) (ap content (c.commands.invariant.only_reads.same_state before)) next in (
      λ h. absurd (cc h),
      λ tells.
          absurd (words_past c.args.entry.now (bytes_at file c.args.chains.now c.args.index) (rest_of file old) c.commands.left (c.commands.invariant.spells before) passed.0 (rest_of file c.read_words.new.chains) passed.1 c.if-left-eq0.true tells),
    )

pub returns-in-End-clause-told : goal.returns-in-End-clause-told
unfolding content
returns-in-End-clause-told g c = λ honest.
    let file = (g.D.Disk.state c.args.disk.now).content in
    let old = c.commands.chains in
    let before = c.in_ok-next.ensures.only_reads.honest honest in
    let next : ReadsWords (g.D.Disk.state c.commands.disk).content old End c.read_words.new.chains =
    subst (λ (n : Next). ReadsWords (g.D.Disk.state c.commands.disk).content old n c.read_words.new.chains) c.in-End.is (c.in_ok-next.ensures.reads honest) in
    let passed : rest_of file old ≡ [] = subst (λ (f : List ℕ). rest_of f old ≡ []) (ap content (c.commands.invariant.only_reads.same_state before)) next in (
      λ h. words_end c.args.entry.now (bytes_at file c.args.chains.now c.args.index) (rest_of file old) c.commands.left (c.commands.invariant.spells before) passed (eqb-true c.commands.left 0 h),
      λ tells. eq-eqb c.commands.left 0 (words_all c.args.entry.now (bytes_at file c.args.chains.now c.args.index) (rest_of file old) c.commands.left (c.commands.invariant.spells before) passed tells),
    )

pub returns-in-Unspelled-clause-told : goal.returns-in-Unspelled-clause-told
unfolding content
returns-in-Unspelled-clause-told g c = λ honest.
    let file = (g.D.Disk.state c.args.disk.now).content in
    let old = c.commands.chains in
    let before = c.in_ok-next.ensures.only_reads.honest honest in
    let next : ReadsWords (g.D.Disk.state c.commands.disk).content old Unspelled c.read_words.new.chains =
    subst (λ (n : Next). ReadsWords (g.D.Disk.state c.commands.disk).content old n c.read_words.new.chains) c.in-Unspelled.is (c.in_ok-next.ensures.reads honest) in
    let passed = subst (λ (f : List ℕ). ReadsWords f old Unspelled c.read_words.new.chains) (ap content (c.commands.invariant.only_reads.same_state before)) next in (
      λ h. absurd (cc h),
      λ tells.
          absurd (words_other c.args.entry.now (bytes_at file c.args.chains.now c.args.index) (rest_of file old) c.commands.left (c.commands.invariant.spells before) passed.0 (rest_of file c.read_words.new.chains) passed.1 passed.2 tells),
    )

pub returns-in-Cut-clause-told : goal.returns-in-Cut-clause-told
unfolding content
returns-in-Cut-clause-told g c = λ honest.
    let file = (g.D.Disk.state c.args.disk.now).content in
    let old = c.commands.chains in
    let before = c.in_ok-next.ensures.only_reads.honest honest in
    let next : ReadsWords (g.D.Disk.state c.commands.disk).content old Cut c.read_words.new.chains =
    subst (λ (n : Next). ReadsWords (g.D.Disk.state c.commands.disk).content old n c.read_words.new.chains) c.in-Cut.is (c.in_ok-next.ensures.reads honest) in
    let passed = subst (λ (f : List ℕ). ReadsWords f old Cut c.read_words.new.chains) (ap content (c.commands.invariant.only_reads.same_state before)) next in (
      λ h. absurd (cc h),
      λ tells. absurd (words_cut c.args.entry.now (bytes_at file c.args.chains.now c.args.index) (rest_of file old) c.commands.left (c.commands.invariant.spells before) passed tells),
    )

pub commands-preserved : goal.commands-preserved
unfolding content
commands-preserved g c =
    let file = (g.D.Disk.state c.args.disk.now).content in
    let old = c.commands.chains in
    record {
      spells = λ honest.
          let before = c.in_ok-next.ensures.only_reads.honest honest in
          let next : ReadsWords (g.D.Disk.state c.commands.disk).content old Spelled c.read_words.new.chains =
          subst (λ (n : Next). ReadsWords (g.D.Disk.state c.commands.disk).content old n c.read_words.new.chains) c.in-Spelled.is (c.in_ok-next.ensures.reads honest) in
          let passed = subst (λ (f : List ℕ). ReadsWords f old Spelled c.read_words.new.chains) (ap content (c.commands.invariant.only_reads.same_state before)) next in
          spells_more (bytes_at file c.args.chains.now c.args.index) (rest_of file old) (rest_of file c.read_words.new.chains) passed.0 c.commands.left (c.commands.left - 1) c.args.entry.now.kept (c.commands.invariant.spells before) passed.1 passed.2 (omega (arith, c.if-left-eq0.false));
      only_reads = reads_on c.commands.invariant.only_reads (valued c.in_ok-next.ensures.only_reads);
    }

pub returns-in_err-next-clause-only_reads : goal.returns-in_err-next-clause-only_reads
returns-in_err-next-clause-only_reads g c =
    let p = err_from_is_err_and c.from_residual.result c.from_residual.ensures.1 in
    rw (p.1, p.2) (reads_on c.commands.invariant.only_reads (failed c.in_err-next.ensures.only_reads))

pub returns-then-left-eq0-clause-only_reads : goal.returns-then-left-eq0-clause-only_reads
returns-then-left-eq0-clause-only_reads g c = reads_on c.commands.invariant.only_reads (valued c.in_ok-next.ensures.only_reads)

pub returns-in-End-clause-only_reads : goal.returns-in-End-clause-only_reads
returns-in-End-clause-only_reads g c = reads_on c.commands.invariant.only_reads (valued c.in_ok-next.ensures.only_reads)

pub returns-in-Unspelled-clause-only_reads : goal.returns-in-Unspelled-clause-only_reads
returns-in-Unspelled-clause-only_reads g c = reads_on c.commands.invariant.only_reads (valued c.in_ok-next.ensures.only_reads)

pub returns-in-Cut-clause-only_reads : goal.returns-in-Cut-clause-only_reads
returns-in-Cut-clause-only_reads g c = reads_on c.commands.invariant.only_reads (valued c.in_ok-next.ensures.only_reads)
