use Rattle.std.proofs.Common.{◌≡◌, ◌<◌, ◌∙◌, ℕ, List, length, refl, ap, sym, subst, arith, rules}
use Rattle.std.proofs.lemmas.Bool.{iff_false}
use Rattle.rr_disk.specs.Disk.{DiskState}
use Rattle.rr_reading.specs.Chains.{HoldsCommands}
use Rattle.rr_reading.specs.Lending.Chains.{all_of}
use Rattle.rr_reading.specs.Lending.Commands.{bytes_at}
use Rattle.rr_reading.specs.Lending.Fitting.{links_at}
use Rattle.rr_reading.specs.Lending.Pages.{joined}
use Rattle.rr_reading.proofs.FormLemmas.{left_more, left_none}
use Rattle.rr_reading.proofs.forms.judge_forms.Goals as goal

content : DiskState → List ℕ
content state = state.content

pub returns-then-not-holds-clause-refused : goal.returns-then-not-holds-clause-refused
unfolding content
returns-then-not-holds-clause-refused g c = λ honest.
    let index = c.loop-index.index in
    let within : index < length c.args.entries.now = omega (arith, c.loop-index-test.true) in
    let all = all_of c.args.tables.now.chains in
    let chain_in : index < length all = omega (arith, within, c.requires) in
    let file = (g.D.Disk.state c.args.disk.now).content in
    let now = (g.D.Disk.state c.loop-index.disk).content in
    let before = c.in_ok-holds.ensures.honest honest in
    let bytes : bytes_at now c.loop-index.tables index ≡ joined file (links_at all index) = λ i. joined (content (c.loop-index.invariant.same_state before i)) (links_at (c.loop-index.invariant.all i) index) in
    let entry = c.index-entries-index.result in (
      refl,
      left_none file c.args.entries.now all index entry within chain_in c.index-entries-index.is (c.loop-index.invariant.decide before)
          (λ here. iff_false (c.in_ok-holds.ensures.holds honest) c.if-not-holds.true (subst (λ (bs : List ℕ). HoldsCommands bs entry.kept) (sym bytes) here)),
    )

pub loop-index-preserved : goal.loop-index-preserved
unfolding content
loop-index-preserved g c =
    let index = c.loop-index.index in
    let within : index < length c.args.entries.now = omega (arith, c.loop-index-test.true) in
    let all = all_of c.args.tables.now.chains in
    let chain_in : index < length all = omega (arith, within, c.requires) in
    let file = (g.D.Disk.state c.args.disk.now).content in
    let now = (g.D.Disk.state c.loop-index.disk).content in
    let entry = c.index-entries-index.result in
    record {
      decide = λ honest.
          let before = c.in_ok-holds.ensures.honest honest in
          let bytes : bytes_at now c.loop-index.tables index ≡ joined file (links_at all index) = λ i. joined (content (c.loop-index.invariant.same_state before i)) (links_at (c.loop-index.invariant.all i) index) in
          left_more file c.args.entries.now all index entry within chain_in c.index-entries-index.is (c.loop-index.invariant.decide before)
          (subst (λ (bs : List ℕ). HoldsCommands bs entry.kept) bytes ((c.in_ok-holds.ensures.holds honest).0 c.if-not-holds.false));
      all = c.in_ok-holds.ensures.all ∙ c.loop-index.invariant.all;
      pages = c.in_ok-holds.ensures.pages ∙ c.loop-index.invariant.pages;
      honest = search rules;
      same_state = search rules;
      same_past = search rules;
      faults = search rules;
      writes = search rules;
      syncs = search rules;
      works = search rules;
      same_len = search rules;
    }
