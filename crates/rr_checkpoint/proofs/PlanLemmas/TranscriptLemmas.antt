-- A transcript with one table or one snapshot more.
use Rattle.std.proofs.Common.{◌≡◌, ◌≢◌, inl, inr, ℕ, zero, suc, ◌<◌, ◌≤◌, Bool, true, false, cond, List, [], ◌∷◌, ◌++◌, length, map, sym, ◌∙◌, ap, subst, arith, length-append}
use Rattle.std.specs.Prelude.{Some, slice_get, slice_index}
use Rattle.std.proofs.lemmas.Bool.{cases_lt}
use Rattle.std.specs.List.{All, AllPairs}
use Rattle.std.proofs.lemmas.List.{get_or_append_left, get_or_past, length-map, map-append}
use Rattle.std.proofs.lemmas.List.Elements.{All-nil, All-head, All-tail, All-cons, All-append, All-push, All-weaker}
use Rattle.std.proofs.lemmas.List.Quantifiers.{all_pairs_push}
use Rattle.rr_reading.proofs.DirLemmas.KeptLemmas.{length-first_commands}
use Rattle.rr_checkpoint.specs.declared.plan.table.TableTranscript.{TableTranscript}
use Rattle.rr_checkpoint.specs.declared.plan.snapshot.SnapshotTranscript.{SnapshotTranscript}
use Rattle.rr_checkpoint.specs.Plan.Snapshots.{IsCounted, IsSnapshotOf, StandsBefore, snapshot_of}
use Rattle.rr_checkpoint.specs.Plan.Transcript.{commands_of, table_of}
use Rattle.rr_reading.specs.Worlds.World.{Snapshot, Table}

-- what holds of the tables, with the new one or without it
pushed : (P : List TableTranscript → Type 0) (ok : Bool) (old new : List TableTranscript) (table : TableTranscript) → new ≡ cond ok (old ++ table ∷ []) old → P (old ++ table ∷ []) → P old → P new
pushed P true old new table is more same = subst P (sym is) more
pushed P false old new table is more same = subst P (sym is) same

abbrev Keeps : TableTranscript → Type 0
Keeps table = 1 ≤ table.kept

abbrev Differs : TableTranscript → TableTranscript → Type 0
Differs table other = table.name ≢ other.name

pub some_pushed : (ok : Bool) (old new : List TableTranscript) (table : TableTranscript) → new ≡ cond ok (old ++ table ∷ []) old → All (λ (t : TableTranscript). 1 ≤ t.kept) old → 1 ≤ length (commands_of table) → All (λ (t : TableTranscript). 1 ≤ t.kept) new
some_pushed ok old new table is all some =
    let here : 1 ≤ table.kept = omega (arith, some, length-first_commands table.kept table.bytes.items) in
    pushed (λ (ts : List TableTranscript). All Keeps ts) ok old new table is (All-append Keeps old (table ∷ []) all (All-cons Keeps table [] here (All-nil Keeps))) all

others_named : (name : List ℕ) (tables : List TableTranscript) → All (λ other. other.name ≢ name) (map table_of tables) → All (λ (other : TableTranscript). other.name ≢ name) tables
others_named name [] others = All-nil (λ (other : TableTranscript). other.name ≢ name)
others_named name (table ∷ tables) others =
    All-cons (λ (other : TableTranscript). other.name ≢ name) table tables (All-head (λ other. other.name ≢ name) (table_of table) (map table_of tables) others)
    (others_named name tables (All-tail (λ other. other.name ≢ name) (table_of table) (map table_of tables) others))

pub names_pushed : (ok : Bool) (old new : List TableTranscript) (table : TableTranscript) → new ≡ cond ok (old ++ table ∷ []) old → AllPairs (λ (t other : TableTranscript). t.name ≢ other.name) old → All (λ other. other.name ≢ table.name) (map table_of old)
    → AllPairs (λ (t other : TableTranscript). t.name ≢ other.name) new
names_pushed ok old new table is all own =
    pushed (λ (ts : List TableTranscript). AllPairs Differs ts) ok old new table is (all_pairs_push Differs old table all (λ k d within. others_named table.name old own k d within)) all

pub few_pushed : (ok : Bool) (old new : List TableTranscript) (table : TableTranscript) → new ≡ cond ok (old ++ table ∷ []) old → length (map table_of old) < 64 → length new ≤ 64
few_pushed ok old new table is room =
    let few : length old < 64 = omega (arith, room, length-map old table_of) in
    pushed (λ (ts : List TableTranscript). length ts ≤ 64) ok old new table is (omega (arith, few, length-append old (table ∷ []))) (omega (arith, few))

-- the snapshots are still of tables that keep as many
counts_more : (counts more : List ℕ) (snapshots : List Snapshot) → All (IsCounted counts) snapshots → All (IsCounted (counts ++ more)) snapshots
counts_more counts more snapshots all = All-weaker (IsCounted counts) (IsCounted (counts ++ more)) (λ snapshot is. (is.0, there snapshot is, is.2)) snapshots all
  where
    there : (snapshot : Snapshot) → IsCounted counts snapshot → snapshot.kept ≤ slice_index (counts ++ more) snapshot.table
    there snapshot is = elim (cases_lt snapshot.table (length counts)) [
      | inl within ↦ omega (arith, is.1, get_or_append_left counts more 0 snapshot.table within)
      | inr past ↦ absurd (omega (arith, is.0, is.1, get_or_past counts snapshot.table 0 past))
    ]

pub counted_pushed : (ok : Bool) (old new : List TableTranscript) (table : TableTranscript) (snapshots : List Snapshot) → new ≡ cond ok (old ++ table ∷ []) old → All (IsCounted (map (λ (t : TableTranscript). t.kept) old)) snapshots → All (IsCounted (map (λ (t : TableTranscript). t.kept) new)) snapshots
counted_pushed ok old new table snapshots is all =
    let count : TableTranscript → ℕ = λ t. t.kept in
    let more : All (IsCounted (map count (old ++ table ∷ []))) snapshots = subst (λ (counts : List ℕ). All (IsCounted counts) snapshots) (sym (map-append count old (table ∷ []))) (counts_more (map count old) (table.kept ∷ []) snapshots all) in
    pushed (λ (ts : List TableTranscript). All (IsCounted (map count ts)) snapshots) ok old new table is more all

-- what holds of the snapshots, with the new one or without it
snapshots_pushed : (P : List Snapshot → Type 0) (ok : Bool) (old new : List SnapshotTranscript) (snapshot : SnapshotTranscript) → new ≡ cond ok (old ++ snapshot ∷ []) old → P (map snapshot_of old ++ snapshot_of snapshot ∷ []) → P (map snapshot_of old) → P (map snapshot_of new)
snapshots_pushed P true old new snapshot is more same = subst P (sym (ap (λ (ss : List SnapshotTranscript). map snapshot_of ss) is ∙ map-append snapshot_of old (snapshot ∷ []))) more
snapshots_pushed P false old new snapshot is more same = subst P (sym (ap (λ (ss : List SnapshotTranscript). map snapshot_of ss) is)) same

-- a snapshot of a table that is there, by how many commands that keeps
counted_of : (tables : List TableTranscript) (snapshot : Snapshot) → IsSnapshotOf (map table_of tables) snapshot → IsCounted (map (λ (t : TableTranscript). t.kept) tables) snapshot
counted_of tables snapshot is = (is.some_kept, kept_at tables snapshot.table snapshot.kept is.table is.of_table is.within, is.short)
  where
    kept_at : (tables : List TableTranscript) (place kept : ℕ) (table : Table) → slice_get (map table_of tables) place ≡ Some table → kept ≤ length table.kept.commands → kept ≤ slice_index (map (λ (t : TableTranscript). t.kept) tables) place
    kept_at [] place kept table there within = absurd (cc)
    kept_at (first ∷ tables) zero kept table there within =
        let same : table_of first ≡ table = cc in
        omega (arith, within, ap (λ (t : Table). length t.kept.commands) same, length-first_commands first.kept first.bytes.items)
    kept_at (first ∷ tables) (suc place) kept table there within = kept_at tables place kept table there within

pub one_counted : (ok : Bool) (tables : List TableTranscript) (old new : List SnapshotTranscript) (snapshot : SnapshotTranscript) → new ≡ cond ok (old ++ snapshot ∷ []) old → All (IsCounted (map (λ (t : TableTranscript). t.kept) tables)) (map snapshot_of old) → IsSnapshotOf (map table_of tables) (snapshot_of snapshot)
    → All (IsCounted (map (λ (t : TableTranscript). t.kept) tables)) (map snapshot_of new)
one_counted ok tables old new snapshot is all one =
    let counts = map (λ (t : TableTranscript). t.kept) tables in
    snapshots_pushed (λ (ss : List Snapshot). All (IsCounted counts) ss) ok old new snapshot is (All-push (IsCounted counts) (map snapshot_of old) (snapshot_of snapshot) all (counted_of tables (snapshot_of snapshot) one)) all

pub one_behind : (ok : Bool) (old new : List SnapshotTranscript) (snapshot : SnapshotTranscript) → new ≡ cond ok (old ++ snapshot ∷ []) old → AllPairs StandsBefore (map snapshot_of old) → All (λ (other : Snapshot). StandsBefore other (snapshot_of snapshot)) (map snapshot_of old)
    → AllPairs StandsBefore (map snapshot_of new)
one_behind ok old new snapshot is all behind =
    snapshots_pushed (λ (ss : List Snapshot). AllPairs StandsBefore ss) ok old new snapshot is (all_pairs_push StandsBefore (map snapshot_of old) (snapshot_of snapshot) all (λ k d within. behind k d within)) all

pub one_within : (ok : Bool) (old new : List SnapshotTranscript) (snapshot : SnapshotTranscript) → new ≡ cond ok (old ++ snapshot ∷ []) old → length (map snapshot_of old) < 4096 → length new ≤ 4096
one_within ok old new snapshot is room =
    let few : length (map snapshot_of new) ≤ 4096 =
    snapshots_pushed (λ (ss : List Snapshot). length ss ≤ 4096) ok old new snapshot is (omega (arith, room, length-append (map snapshot_of old) (snapshot_of snapshot ∷ []))) (omega (arith, room)) in
    omega (arith, few, length-map new snapshot_of)
