use Rattle.std.proofs.Common.{◌≡◌, ◌≤◌, ℕ, List, true, length, take, drop, map, sym, ◌∙◌, ap, arith}
use Rattle.std.proofs.lemmas.Result.{err_from_is_err_and}
use Rattle.rr_disk.specs.Disk.{DiskState}
use Rattle.rr_pages.specs.declared.reading.FollowedChain.{FollowedChain}
use Rattle.rr_reading.specs.Chains.{AreOfForm, all_held_in, held}
use Rattle.rr_reading.specs.Held.{chains_held}
use Rattle.rr_reading.specs.Lending.Chains.{all_of}
use Rattle.rr_reading.specs.Lending.Fitting.{each_fits}
use Rattle.rr_reading.proofs.FormLemmas.{fits_before, fits_behind, forms_along, forms_parted, held_named, parts_fit}
use Rattle.rr_reading.proofs.contents.find_named.Goals as goal

content : DiskState → List ℕ
content state = state.content

pub take_texts-followed-requires : goal.take_texts-followed-requires
take_texts-followed-requires g c = omega (arith, c.requires.many)

pub lend-requires : goal.lend-requires
lend-requires g c =
    let rest = c.take_texts-followed.new.chains.items in
    let parts = parts_fit c.args.count c.take_texts-followed.result rest c.args.chains.items c.take_texts-followed.ensures c.requires.fit in
    ap (each_fits c.args.count) c.in_ok-of_snapshots.ensures.items ∙ fits_before c.args.count rest c.len.result parts.tables_fit

pub returns-in_err-judge_forms-clause-refused : goal.returns-in_err-judge_forms-clause-refused
unfolding content
returns-in_err-judge_forms-clause-refused g c =
    let p = err_from_is_err_and c.from_residual-in_err-judge_forms.result c.from_residual-in_err-judge_forms.ensures.1 in
    let file = (g.D.Disk.state c.args.disk.now).content in
    let now = (g.D.Disk.state c.read_texts.new.disk).content in
    let entries = c.args.dir.now.tables.items in
    let rest = c.take_texts-followed.new.chains.items in
    let lent = all_of c.in_ok-tables.tables.chains in
    let tables = c.in_ok-tables.ensures.all ∙ c.in_ok-of_snapshots.ensures.items in
    let few : c.len.result ≡ length entries = c.len.ensures ∙ c.args.dir.now.tables.ok.0 in
    let within : c.len.result ≤ length rest = omega (arith, few, c.requires.many, ap (λ (cs : List FollowedChain). length cs) c.take_texts-followed.ensures) in
    let behind = ap (λ (cs : List FollowedChain). drop 4 cs) c.take_texts-followed.ensures in
    rw (p.1, p.2) (λ honest.
    let same : now ≡ file = ap content (c.in_ok-texts.ensures.same_state (c.in_err-judge_forms.ensures.honest honest)) in
    forms_along _ (AreOfForm c.deref.result.now (all_held_in now lent)) (AreOfForm entries (all_held_in file (drop 4 c.args.chains.items)))
    (λ are. forms_parted file now entries c.deref.result.now (drop 4 c.args.chains.items) lent c.len.result same c.deref.ensures.value (tables ∙ ap (λ (cs : List FollowedChain). take c.len.result cs) (sym behind)) few
    (omega (arith, within, ap (λ (cs : List FollowedChain). length cs) behind)) are)
    (c.in_err-judge_forms.ensures.refused honest))

pub returns-in_err-snapshots-clause-device : goal.returns-in_err-snapshots-clause-device
returns-in_err-snapshots-clause-device g c =
    let p = err_from_is_err_and c.from_residual-in_err-snapshots.result c.from_residual-in_err-snapshots.ensures.1 in
    let rest = c.take_texts-followed.new.chains.items in
    let parts = parts_fit c.args.count c.take_texts-followed.result rest c.args.chains.items c.take_texts-followed.ensures c.requires.fit in
    let fit : each_fits c.args.count c.deref-2.result.now ≡ true = ap (each_fits c.args.count) (c.deref-2.ensures.value ∙ c.in_ok-of_snapshots.ensures.tail) ∙ fits_behind c.args.count rest c.len.result parts.tables_fit in
    rw (p.1, p.2, sym (c.in_ok-judge_forms.ensures.same_len ∙ c.in_ok-texts.ensures.same_len)) (c.in_err-snapshots.ensures.device c.args.count fit)

pub returns-clause-found : goal.returns-clause-found
unfolding content
returns-clause-found g c = λ honest.
    let third = c.in_ok-snapshots.ensures.honest honest in
    let second = c.in_ok-judge_forms.ensures.honest third in
    let file = (g.D.Disk.state c.args.disk.now).content in
    let now = (g.D.Disk.state c.judge_forms.new.disk).content in
    let same : now ≡ file = ap content (c.in_ok-judge_forms.ensures.same_state third) ∙ ap content (c.in_ok-texts.ensures.same_state second) in
    held_named file now c.args.chains.items c.take_texts-followed.new.chains.items c.split_off.new.self.items (all_of c.judge_forms.new.tables.chains) c.in_ok-of_snapshots.of_snapshots.items c.deref-2.result.now c.take_texts-followed.result c.len.result
    (chains_held c.in_ok-texts.texts) (map held c.in_ok-snapshots.snapshots.items)
    c.take_texts-followed.ensures c.in_ok-of_snapshots.ensures.items (c.in_ok-judge_forms.ensures.all ∙ c.in_ok-tables.ensures.all) c.in_ok-of_snapshots.ensures.tail c.deref-2.ensures.value
    same (c.in_ok-texts.ensures.texts second) (c.in_ok-snapshots.ensures.read honest)
