use Rattle.std.proofs.Common.{◌≡◌, ◌<◌, ◌≤◌, true, List, ℕ, ◌++◌, get_or, Some, arith, ap, refl, sym, ◌∙◌, subst, length, length-append}
use Rattle.std.specs.List.{slice_get}
use Rattle.std.proofs.lemmas.Option.{get_or_from_slice_get, slice_get_read, slice_get_within}
use Rattle.rr_reading.specs.declared.dir.directory.SnapshotEntry.{SnapshotEntry}
use Rattle.rr_reading.specs.declared.dir.directory.TableEntry.{TableEntry}
use Rattle.rr_reading.specs.Dir.Directory.{spelled_snapshot, AreTables, IsSnapshot}
use Rattle.rr_reading.proofs.DirLemmas.SnapshotLemmas.{SnapshotFits, SnapshotFits-snapshot, cut_snapshot, length-spelled_snapshot}
use Rattle.rr_reading.proofs.dir.reading.next_snapshot.Goals as goal

-- a snapshot that stands there is the one that was read
is_read : (tables : List TableEntry) → AreTables tables → (bytes : List ℕ) (read snapshot : SnapshotEntry) (mid rest : List ℕ) → SnapshotFits read → IsSnapshot tables snapshot → bytes ≡ spelled_snapshot read ++ mid → bytes ≡ spelled_snapshot snapshot ++ rest → IsSnapshot tables read
is_read tables are bytes read snapshot mid rest fits is here same =
    subst (IsSnapshot tables) (sym (cut_snapshot read snapshot mid rest fits (SnapshotFits-snapshot tables are snapshot is) (sym here ∙ same)).0) is

pub returns-in_err-snapshot : goal.returns-in_err-snapshot
returns-in_err-snapshot c =
    rw c.from_residual.ensures (λ snapshot rest is same. omega (arith, ap length same, length-append (spelled_snapshot snapshot) rest, length-spelled_snapshot snapshot, c.in_err-snapshot.ensures))

pub returns-in_err-table : goal.returns-in_err-table
returns-in_err-table c =
    rw c.from_residual-in_err-table.ensures (λ snapshot rest is same.
    let read = c.in_ok-snapshot.ensures in
    let fits : SnapshotFits c.in_ok-snapshot.snapshot = record { placed = read.0; counted = read.1; is_chain = read.2 } in
    let there = is_read c.args.tables.now c.requires c.args.cursor.now c.in_ok-snapshot.snapshot snapshot c.next_snapshot_entry.new.cursor rest fits is read.3 same in
    let inside : c.in_ok-snapshot.snapshot.table < length c.args.tables.now = slice_get_within c.args.tables.now c.in_ok-snapshot.snapshot.table there.table there.of_table in
    let past : length c.args.tables.now ≤ c.from.result = c.in_err-table.ensures.lookup.3 in
    omega (arith, inside, past, c.from.ensures))

pub returns-then-fits_table : goal.returns-then-fits_table
returns-then-fits_table c =
    let read = c.in_ok-snapshot.ensures in
    let tables = c.args.tables.now in
    let table = c.in_ok-table.table.now in
    let found = c.in_ok-table.ensures.lookup in
    let there : slice_get tables c.from.result ≡ Some table = slice_get_read tables (length tables) c.from.result table refl found.3.0 found.1 in
    let limits = c.fits_table.ensures.0 c.if-fits_table.true in (
      record { table = table; of_table = ap (slice_get tables) (sym c.from.ensures) ∙ there; some_kept = limits.0; within = limits.1; page = read.2.page; short = limits.2 },
      read.3,
    )

pub returns-else-fits_table : goal.returns-else-fits_table
returns-else-fits_table c snapshot rest is same =
    let read = c.in_ok-snapshot.ensures in
    let tables = c.args.tables.now in
    let here = c.in_ok-snapshot.snapshot in
    let table = c.in_ok-table.table.now in
    let fits : SnapshotFits here = record { placed = read.0; counted = read.1; is_chain = read.2 } in
    let there = is_read tables c.requires c.args.cursor.now here snapshot c.next_snapshot_entry.new.cursor rest fits is read.3 same in
    let of : there.table ≡ table = sym (get_or_from_slice_get tables here.table there.table table there.of_table) ∙ ap (λ (k : ℕ). get_or tables k table) (sym c.from.ensures) ∙ sym c.in_ok-table.ensures.lookup.1 in
    let within : here.kept ≤ table.kept = subst (λ (t : TableEntry). here.kept ≤ t.kept) of there.within in
    let fitting : c.fits_table.result ≡ true = c.fits_table.ensures.1 (there.some_kept, within, there.short) in
    absurd (cc)
