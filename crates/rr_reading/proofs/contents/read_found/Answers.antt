use Rattle.std.proofs.Common.{◌≡◌, ◌≤◌, ℕ, List, ◌++◌, drop, map, length, sym, ◌∙◌, ap, subst, arith}
use Rattle.std.proofs.lemmas.Result.{err_from_is_err_and}
use Rattle.rr_reading.specs.declared.dir.directory.ChainRef.{ChainRef}
use Rattle.rr_reading.specs.Dir.Directory.{directory_of}
use Rattle.rr_reading.specs.Dir.Heads.{head_of}
use Rattle.rr_disk.specs.Disk.{DiskState}
use Rattle.rr_pages.specs.ReachedPages.{marks_of}
use Rattle.rr_reading.specs.declared.fault.Fault.{Fault}
use Rattle.rr_reading.specs.Reading.{Refuses}
use Rattle.rr_reading.specs.Chains.{held, held_in, all_held_in, AreOfForm}
use Rattle.rr_reading.specs.Held.{chains_held, chains_of, tables_in}
use Rattle.rr_reading.proofs.FormLemmas.{four_first, refuses_form}
use Rattle.rr_reading.proofs.Told.{told_later, read_later, table_told, all_held_there}
use Rattle.rr_reading.proofs.contents.read_found.Goals as goal

content : DiskState → List ℕ
content state = state.content

pub returns-in_err-dir-clause-refused : goal.returns-in_err-dir-clause-refused
returns-in_err-dir-clause-refused g c =
    let p = err_from_is_err_and c.from_residual.result c.from_residual.ensures.1 in
    rw (p.1, p.2) c.in_err-dir.ensures.refused

pub returns-in_err-chains-clause-refused : goal.returns-in_err-chains-clause-refused
unfolding content
returns-in_err-chains-clause-refused g c =
    let p = err_from_is_err_and c.from_residual-in_err-chains.result c.from_residual-in_err-chains.ensures.1 in
    let found = c.in_ok-dir.field-0 in
    rw (p.1, p.2) (λ honest side taken.
    let first = c.in_err-chains.ensures.honest honest in
    told_later
    (g.D.Disk.state c.args.disk.now).content side c.args.root.now (marks_of found.reached) (held_in (g.D.Disk.state c.args.disk.now).content found.chain) (directory_of found.dir) (c.in_ok-dir.ensures.found first side taken)
    c.page_count-count.result c.page_count-count.ensures.same
    (g.D.Disk.state c.read_directory.new.disk).content (map head_of c.deref.result.now) (ap content (c.in_ok-dir.ensures.same_state first))
    (ap (λ (chains : List ChainRef). map head_of chains) c.deref.ensures.value ∙ c.in_ok-named.ensures.heads) _ (c.in_err-chains.ensures.broken honest))

pub find_named-requires-clause-many : goal.find_named-requires-clause-many
find_named-requires-clause-many g c =
    omega (
      arith,
      c.in_ok-chains.ensures.each,
      ap (λ (chains : List ChainRef). length chains) c.deref.ensures.value,
      c.in_ok-named.ensures.each,
    )

pub returns-in_err-texts-clause-refused : goal.returns-in_err-texts-clause-refused
unfolding content
returns-in_err-texts-clause-refused g c =
    let p = err_from_is_err_and c.from_residual-in_err-texts.result c.from_residual-in_err-texts.ensures.1 in
    let found = c.in_ok-dir.field-0 in
    let file = (g.D.Disk.state c.args.disk.now).content in
    let file_named = (g.D.Disk.state c.read_directory.new.disk).content in
    let file_found = (g.D.Disk.state c.follow_chains.new.disk).content in
    let chains = c.in_ok-chains.chains.items in
    rw (p.1, p.2) (λ honest side taken.
    let second = c.in_err-texts.ensures.honest honest in
    let first = c.in_ok-chains.ensures.honest second in
    let has = c.in_ok-dir.ensures.found first side taken in
    let same : file_named ≡ file = ap content (c.in_ok-dir.ensures.same_state first) in
    let same_found : file_found ≡ file = ap content (c.in_ok-chains.ensures.same_state second) ∙ same in
    let some : 4 ≤ length chains =
    omega (arith, c.in_ok-chains.ensures.each, ap (λ (cs : List ChainRef). length cs) c.deref.ensures.value, c.in_ok-named.ensures.each) in
    let four = four_first file chains some in
    let read = read_later file side c.args.root.now (marks_of found.reached) (held_in file found.chain) (directory_of found.dir) has
    c.page_count-count.result c.page_count-count.ensures.same
    file_named (map head_of c.deref.result.now) same
    (ap (λ (cs : List ChainRef). map head_of cs) c.deref.ensures.value ∙ c.in_ok-named.ensures.heads)
    (marks_of c.follow_chains.new.reached) (all_held_in file_named chains) (all_held_in file (drop 4 chains)) four.texts
    (ap (λ (f : List ℕ). all_held_in f chains) same ∙ four.halves) (c.in_ok-chains.ensures.whole second) in
    refuses_form file _ (AreOfForm found.dir.tables.items (all_held_in file_found (drop 4 chains))) (c.in_err-texts.ensures.refused honest)
    (λ none. table_told file side c.args.root.now (marks_of found.reached) (held_in file found.chain) (directory_of found.dir) has
    c.page_count-count.result c.page_count-count.ensures.same
    (marks_of c.follow_chains.new.reached) four.texts (all_held_in file (drop 4 chains)) read
    (λ forms. none (subst (λ (f : List ℕ). AreOfForm found.dir.tables.items (all_held_in f (drop 4 chains))) (sym same_found) forms)))
    (side, c.args.root.now, taken))

pub returns-clause-found : goal.returns-clause-found
unfolding content
returns-clause-found g c = λ honest side taken.
    let found = c.in_ok-dir.field-0 in
    let file = (g.D.Disk.state c.args.disk.now).content in
    let file_named = (g.D.Disk.state c.read_directory.new.disk).content in
    let file_found = (g.D.Disk.state c.follow_chains.new.disk).content in
    let chains = c.in_ok-chains.chains.items in
    let named = c.in_ok-texts.field-0 in
    let second = c.in_ok-texts.ensures.honest honest in
    let first = c.in_ok-chains.ensures.honest second in
    let has = c.in_ok-dir.ensures.found first side taken in
    let same : file_named ≡ file = ap content (c.in_ok-dir.ensures.same_state first) in
    let same_found : file_found ≡ file = ap content (c.in_ok-chains.ensures.same_state second) ∙ same in
    let snapshots = map held named.snapshots.items in
    let halves : all_held_in file_named chains ≡ chains_of (chains_held named.texts) (tables_in file named.tables ++ snapshots) =
    ap (λ (f : List ℕ). all_held_in f chains) (same ∙ sym same_found) ∙ c.in_ok-texts.ensures.found honest ∙ ap (λ (f : List ℕ). chains_of (chains_held named.texts) (tables_in f named.tables ++ snapshots)) same_found in
    let read = read_later file side c.args.root.now (marks_of found.reached) (held_in file found.chain) (directory_of found.dir) has
    c.page_count-count.result c.page_count-count.ensures.same
    file_named (map head_of c.deref.result.now) same
    (ap (λ (cs : List ChainRef). map head_of cs) c.deref.ensures.value ∙ c.in_ok-named.ensures.heads)
    (marks_of c.follow_chains.new.reached) (all_held_in file_named chains) (tables_in file named.tables ++ snapshots) (chains_held named.texts) halves (c.in_ok-chains.ensures.whole second) in
    all_held_there file side c.args.root.now (marks_of found.reached) (held_in file found.chain) (directory_of found.dir) has
    c.page_count-count.result c.page_count-count.ensures.same
    (marks_of c.follow_chains.new.reached) (chains_held named.texts) (tables_in file named.tables) snapshots read
    (subst (λ (f : List ℕ). length (tables_in f named.tables) ≡ length found.dir.tables.items) same_found (c.in_ok-texts.ensures.counted honest))
    (subst (λ (f : List ℕ). AreOfForm found.dir.tables.items (tables_in f named.tables)) same_found (c.in_ok-texts.ensures.forms honest))

pub returns-in_err-named-clause-refused : goal.returns-in_err-named-clause-refused
returns-in_err-named-clause-refused g c =
    let p = err_from_is_err_and c.from_residual-in_err-named.result c.from_residual-in_err-named.ensures.1 in
    rw (p.1, p.2) (λ honest side taken.
    subst (λ (fault : Fault). Refuses (g.D.Disk.state c.args.disk.now).content fault) (sym c.in_err-named.ensures.memory) (side, c.args.root.now, taken))
