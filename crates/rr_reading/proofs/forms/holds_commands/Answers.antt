use Rattle.std.proofs.Common.{◌≡◌, ◌+◌, ◌-◌, ℕ, List, [], ap, ◌∙◌, subst, arith, rules}
use Rattle.std.proofs.lemmas.Bool.{eqb-true, eq-eqb}
use Rattle.rr_disk.specs.Disk.{DiskState}
use Rattle.rr_reading.specs.declared.forms.Next.{Next}
use Rattle.rr_reading.specs.declared.forms.Next.TheVariants.{Command, End, Cut}
use Rattle.rr_reading.specs.Lending.Commands.{Passes, bytes_at, rest_of}
use Rattle.rr_reading.proofs.LendingLemmas.FrontLemmas.{counts_all, counts_cut, counts_end, counts_more, counts_past}
use Rattle.rr_reading.proofs.forms.holds_commands.Goals as goal

content : DiskState → List ℕ
content state = state.content

pub returns-then-left-eq0-clause-holds : goal.returns-then-left-eq0-clause-holds
unfolding content
returns-then-left-eq0-clause-holds g c = λ honest.
    let file = (g.D.Disk.state c.args.disk.now).content in
    let old = c.commands.tables in
    let before = c.in_ok-next.ensures.honest honest in
    let next : Passes (g.D.Disk.state c.commands.disk).content old Command c.pass.new.tables =
    subst (λ (n : Next). Passes (g.D.Disk.state c.commands.disk).content old n c.pass.new.tables) c.in-Command.is (c.in_ok-next.ensures.passes honest) in
    let passed = subst (λ (f : List ℕ). Passes f old Command c.pass.new.tables) (ap content (c.commands.invariant.same_state before)) next in (
      λ h. absurd (cc h),
      λ holds.
          absurd (counts_past (bytes_at file c.args.tables.now c.args.index) (rest_of file old) (rest_of file c.pass.new.tables) passed.0 c.commands.left c.args.count (c.commands.invariant.counts before) passed.1 c.if-left-eq0.true holds),
    )

pub returns-in-End-clause-holds : goal.returns-in-End-clause-holds
unfolding content
returns-in-End-clause-holds g c = λ honest.
    let file = (g.D.Disk.state c.args.disk.now).content in
    let old = c.commands.tables in
    let before = c.in_ok-next.ensures.honest honest in
    let next : Passes (g.D.Disk.state c.commands.disk).content old End c.pass.new.tables =
    subst (λ (n : Next). Passes (g.D.Disk.state c.commands.disk).content old n c.pass.new.tables) c.in-End.is (c.in_ok-next.ensures.passes honest) in
    let passed : rest_of file old ≡ [] = subst (λ (f : List ℕ). rest_of f old ≡ []) (ap content (c.commands.invariant.same_state before)) next in (
      λ h. counts_end (bytes_at file c.args.tables.now c.args.index) (rest_of file old) c.commands.left c.args.count (c.commands.invariant.counts before) passed (eqb-true c.commands.left 0 h),
      λ holds. eq-eqb c.commands.left 0 (counts_all (bytes_at file c.args.tables.now c.args.index) (rest_of file old) c.commands.left c.args.count (c.commands.invariant.counts before) passed holds),
    )

pub returns-in-Cut-clause-holds : goal.returns-in-Cut-clause-holds
unfolding content
returns-in-Cut-clause-holds g c = λ honest.
    let file = (g.D.Disk.state c.args.disk.now).content in
    let old = c.commands.tables in
    let before = c.in_ok-next.ensures.honest honest in
    let next : Passes (g.D.Disk.state c.commands.disk).content old Cut c.pass.new.tables =
    subst (λ (n : Next). Passes (g.D.Disk.state c.commands.disk).content old n c.pass.new.tables) c.in-Cut.is (c.in_ok-next.ensures.passes honest) in
    let passed = subst (λ (f : List ℕ). Passes f old Cut c.pass.new.tables) (ap content (c.commands.invariant.same_state before)) next in (
      λ h. absurd (cc h),
      λ holds. absurd (counts_cut (bytes_at file c.args.tables.now c.args.index) (rest_of file old) c.commands.left c.args.count (c.commands.invariant.counts before) passed holds),
    )

pub commands-preserved : goal.commands-preserved
unfolding content
commands-preserved g c =
    let file = (g.D.Disk.state c.args.disk.now).content in
    let old = c.commands.tables in
    record {
      counts = λ honest.
          let before = c.in_ok-next.ensures.honest honest in
          let next : Passes (g.D.Disk.state c.commands.disk).content old Command c.pass.new.tables =
          subst (λ (n : Next). Passes (g.D.Disk.state c.commands.disk).content old n c.pass.new.tables) c.in-Command.is (c.in_ok-next.ensures.passes honest) in
          let passed = subst (λ (f : List ℕ). Passes f old Command c.pass.new.tables) (ap content (c.commands.invariant.same_state before)) next in
          counts_more (bytes_at file c.args.tables.now c.args.index) (rest_of file old) (rest_of file c.pass.new.tables) passed.0 c.commands.left (c.commands.left - 1) c.args.count (c.commands.invariant.counts before) passed.1 (omega (arith, c.if-left-eq0.false));
      all = c.in_ok-next.ensures.all ∙ c.commands.invariant.all;
      pages = c.in_ok-next.ensures.pages ∙ c.commands.invariant.pages;
      honest = search rules;
      same_state = search rules;
      same_past = search rules;
      faults = search rules;
      writes = search rules;
      syncs = search rules;
      works = search rules;
      same_len = search rules;
    }
