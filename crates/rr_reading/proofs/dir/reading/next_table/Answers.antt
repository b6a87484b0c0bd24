use Rattle.std.proofs.Common.{◌≡◌, ℕ, List, ◌++◌, true, arith, ap, sym, ◌∙◌, subst, length, length-append, append_assoc}
use Rattle.rr_reading.specs.declared.dir.directory.TableEntry.{TableEntry}
use Rattle.rr_reading.specs.Dir.Directory.{spelled_name, spelled_state, spelled_table, IsTable}
use Rattle.rr_reading.proofs.DirLemmas.TableLemmas.{FitsBytes-table, cut_name, cut_state, length-spelled_state}
use Rattle.rr_reading.proofs.dir.reading.next_table.Goals as goal

-- a table that stands there has the name that was read
behind_name : (bytes name mid : List ℕ) (table : TableEntry) (rest : List ℕ) → bytes ≡ spelled_name name ++ mid → bytes ≡ spelled_table table ++ rest → (name ≡ table.name) × (mid ≡ spelled_state table ++ rest)
behind_name bytes name mid table rest read same =
    cut_name name table.name mid (spelled_state table ++ rest) (sym read ∙ same ∙ append_assoc (spelled_name table.name) (spelled_state table) rest)

pub returns-in_err-table : goal.returns-in_err-table
returns-in_err-table c =
    rw c.from_residual-in_err-table.ensures (λ table rest is same.
    let parts = behind_name c.args.cursor.now c.in_ok-name.name c.next_name.new.cursor table rest c.in_ok-name.ensures.1 same in
    omega (arith, ap length parts.1, length-append (spelled_state table) rest, length-spelled_state table, c.in_err-table.ensures))

pub returns-else-is_within_limits : goal.returns-else-is_within_limits
returns-else-is_within_limits c table rest is same =
    let parts = behind_name c.args.cursor.now c.in_ok-name.name c.next_name.new.cursor table rest c.in_ok-name.ensures.1 same in
    let read = c.in_ok-table.ensures in
    let one = (cut_state c.in_ok-table.table table c.next_entry.new.cursor rest (read.0 ∙ parts.0) read.1 (FitsBytes-table table is) (sym read.2 ∙ parts.1)).0 in
    let here : IsTable c.in_ok-table.table = subst IsTable (sym one) is in
    let within : c.is_within_limits.result ≡ true = c.is_within_limits.ensures.1 (here.stamped, here.some_kept, here.few_kept) in
    absurd (cc)
