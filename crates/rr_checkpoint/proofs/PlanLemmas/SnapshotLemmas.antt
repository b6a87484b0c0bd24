-- What a directory says of a transcript's snapshots.
use Rattle.std.proofs.Common.{◌≡◌, inl, inr, ℕ, zero, suc, ◌*◌, ◌^◌, ◌<◌, ◌≤◌, List, [], ◌∷◌, length, map, refl, ap, arith, length-append}
use Rattle.std.specs.List.{flat_map, All, AllPairs}
use Rattle.std.specs.Prelude.{Some, slice_get, slice_index}
use Rattle.std.proofs.lemmas.Bool.{cases_lt}
use Rattle.std.proofs.lemmas.List.Elements.{All-nil, All-head, All-tail, All-cons}
use Rattle.std.proofs.lemmas.List.Kept.{AllPairs-cons}
use Rattle.rr_reading.specs.declared.dir.directory.SnapshotEntry.{SnapshotEntry}
use Rattle.rr_reading.specs.declared.dir.directory.TableEntry.{TableEntry}
use Rattle.rr_reading.specs.Dir.Directory.{spelled_snapshot, spelled_snapshots, AreSnapshots, ComesBefore, IsSnapshot}
use Rattle.rr_words.specs.Spelling.Number.{spelled_number}
use Rattle.rr_words.proofs.SpellingLemmas.NumberLemmas.{length-spelled_number}
use Rattle.rr_reading.proofs.DirLemmas.KeptLemmas.{length-first_commands}
use Rattle.rr_reading.proofs.DirLemmas.SnapshotLemmas.{length-spelled_snapshot}
use Rattle.rr_images.specs.Holding.{HeldChain, pages_of, texts_of}
use Rattle.rr_images.specs.Plans.{Draft, Fresh, Kept, chains_of, fresh_chains, kept_of, AllFit}
use Rattle.rr_pages.specs.Laying.{head_of}
use Rattle.rr_pages.specs.Pages.{IsIn}
use Rattle.rr_pages.proofs.SetLemmas.{in_back, in_front}
use Rattle.rr_checkpoint.specs.declared.plan.table.TableTranscript.{TableTranscript}
use Rattle.rr_checkpoint.specs.Plan.Laying.{snapshots_length}
use Rattle.rr_checkpoint.specs.Plan.Snapshots.{IsCounted, StandsBefore}
use Rattle.rr_checkpoint.specs.Plan.Transcript.{table_of}
use Rattle.rr_reading.specs.Worlds.Spelling.{entry_for, entries_for, snapshot_entry, snapshot_entries}
use Rattle.rr_reading.specs.Worlds.World.{Snapshot, text_for}
use Rattle.rr_checkpoint.proofs.PlanLemmas.LaidSnapshots.{bytes_of}
use Rattle.rr_checkpoint.proofs.PlanLemmas.LaidTables.{head_under}

-- an entry for each, of 18 bytes
pub entries_long : (chains : List HeldChain) (snapshots : List Snapshot) → texts_of chains ≡ map bytes_of snapshots → length (snapshot_entries chains snapshots) ≡ length snapshots
entries_long [] [] same = refl
entries_long [] (snapshot ∷ snapshots) same = absurd (cc)
entries_long (chain ∷ chains) [] same = absurd (cc)
entries_long (chain ∷ chains) (snapshot ∷ snapshots) same =
    let rest : texts_of chains ≡ map bytes_of snapshots = cc in
    ap suc (entries_long chains snapshots rest)

each_long : (entries : List SnapshotEntry) → length (flat_map spelled_snapshot entries) ≡ 18 * length entries
each_long [] = omega arith
each_long (entry ∷ entries) = omega (arith, length-append (spelled_snapshot entry) (flat_map spelled_snapshot entries), length-spelled_snapshot entry, each_long entries)

pub snapshots_counted : (chains : List HeldChain) (snapshots : List Snapshot) → texts_of chains ≡ map bytes_of snapshots → length (spelled_snapshots (snapshot_entries chains snapshots)) ≡ snapshots_length snapshots
snapshots_counted [] [] same = refl
snapshots_counted [] (snapshot ∷ snapshots) same = absurd (cc)
snapshots_counted (chain ∷ chains) [] same = absurd (cc)
snapshots_counted (chain ∷ chains) (snapshot ∷ snapshots) same =
    let rest : texts_of chains ≡ map bytes_of snapshots = cc in
    let entries = snapshot_entry chain snapshot ∷ snapshot_entries chains snapshots in
    omega (
      arith,
      length-append (spelled_number 2 (length entries)) (flat_map spelled_snapshot entries),
      length-spelled_number 2 (length entries),
      each_long entries,
      entries_long chains snapshots rest,
    )

-- the table of a snapshot is named, and keeps at least as many commands
abbrev Keeps : List TableEntry → ℕ → ℕ → Type 0
Keeps tables place kept = (entry : TableEntry) × (slice_get tables place ≡ Some entry) × (kept ≤ entry.kept)

table_there : (chains : List HeldChain) (parts : List TableTranscript) (place kept : ℕ) → texts_of chains ≡ map text_for (map table_of parts) → 1 ≤ kept → kept ≤ slice_index (map (λ (part : TableTranscript). part.kept) parts) place
    → Keeps (entries_for chains (map table_of parts)) place kept
table_there chains [] place kept same some within = absurd (omega (arith, some, within))
table_there [] (part ∷ parts) place kept same some within = absurd (cc)
table_there (chain ∷ chains) (part ∷ parts) zero kept same some within = (entry_for chain (table_of part), refl, omega (arith, within, length-first_commands part.kept part.bytes.items))
table_there (chain ∷ chains) (part ∷ parts) (suc place) kept same some within =
    let rest : texts_of chains ≡ map text_for (map table_of parts) = cc in
    table_there chains parts place kept rest some within

-- each chain begins on a page that an entry can name
abbrev pub AreUnder : List HeldChain → Type 0
AreUnder [] = Unit {0}
AreUnder (chain ∷ chains) = (head_of chain.pages < 2 ^ 64) × AreUnder chains

head_kept : (pages : List ℕ) → ((page : ℕ) → IsIn page pages → page < 65536) → head_of pages < 2 ^ 64
head_kept [] under = omega arith
head_kept (page ∷ pages) under =
    let first : page < 65536 = under page (inl refl) in
    omega (arith, first)

pub heads_under : (drafts : List Draft) → AllFit (fresh_chains drafts) → ((page : ℕ) → IsIn page (pages_of (kept_of drafts)) → page < 65536) → AreUnder (chains_of drafts)
heads_under [] fit under = tt
heads_under (Fresh chain ∷ drafts) fit under = (head_under chain.pages chain.pieces fit.0.each, heads_under drafts fit.1 under)
heads_under (Kept chain ∷ drafts) fit under = (
  head_kept chain.pages (λ page inside. under page (in_front page chain.pages (pages_of (kept_of drafts)) inside)),
  heads_under drafts fit (λ page inside. under page (in_back page chain.pages (pages_of (kept_of drafts)) inside)),
)

-- so what the directory says of a snapshot is of its form
snapshot_fits : (tables : List TableEntry) (chain : HeldChain) (snapshot : Snapshot) → chain.text ≡ snapshot.bytes → head_of chain.pages < 2 ^ 64 → Keeps tables snapshot.table snapshot.kept → 1 ≤ snapshot.kept → length snapshot.bytes ≤ 16384
    → IsSnapshot tables (snapshot_entry chain snapshot)
snapshot_fits tables chain snapshot whole under there some short =
    record {
      table = there.0;
      of_table = there.1;
      some_kept = some;
      within = there.2;
      page = under;
      short = omega (arith, ap (λ (xs : List ℕ). length xs) whole, short);
    }

each_fits : (chains : List HeldChain) (parts : List TableTranscript) (more : List HeldChain) (snapshots : List Snapshot) → texts_of chains ≡ map text_for (map table_of parts) → texts_of more ≡ map bytes_of snapshots → AreUnder more
    → All (IsCounted (map (λ (part : TableTranscript). part.kept) parts)) snapshots → All (IsSnapshot (entries_for chains (map table_of parts))) (snapshot_entries more snapshots)
each_fits chains parts [] [] same bytes under counted = All-nil (IsSnapshot (entries_for chains (map table_of parts)))
each_fits chains parts [] (snapshot ∷ snapshots) same bytes under counted = absurd (cc)
each_fits chains parts (chain ∷ more) [] same bytes under counted = absurd (cc)
each_fits chains parts (chain ∷ more) (snapshot ∷ snapshots) same bytes under counted =
    let tables = entries_for chains (map table_of parts) in
    let counts = map (λ (part : TableTranscript). part.kept) parts in
    let whole : chain.text ≡ snapshot.bytes = cc (bytes) in
    let rest : texts_of more ≡ map bytes_of snapshots = cc (bytes) in
    let here = All-head (IsCounted counts) snapshot snapshots counted in
    let there = table_there chains parts snapshot.table snapshot.kept same here.0 here.1 in
    All-cons (IsSnapshot tables) (snapshot_entry chain snapshot) (snapshot_entries more snapshots) (snapshot_fits tables chain snapshot whole under.0 there here.0 here.2)
    (each_fits chains parts more snapshots same rest under.1 (All-tail (IsCounted counts) snapshot snapshots counted))

-- and they rise
comes_before : (snapshot other : Snapshot) (chain behind : HeldChain) → StandsBefore snapshot other → ComesBefore (snapshot_entry chain snapshot) (snapshot_entry behind other)
comes_before snapshot other chain behind before = elim (cases_lt snapshot.table other.table) [
  | inl less ↦ inl less
  | inr least ↦ let same : snapshot.table ≡ other.table = omega (arith, least, before.0) in inr (same, before.1 same)
]

others_behind : (snapshot : Snapshot) (chain : HeldChain) (chains : List HeldChain) (snapshots : List Snapshot) → All (StandsBefore snapshot) snapshots → All (ComesBefore (snapshot_entry chain snapshot)) (snapshot_entries chains snapshots)
others_behind snapshot chain [] snapshots all = All-nil (ComesBefore (snapshot_entry chain snapshot))
others_behind snapshot chain (next ∷ chains) [] all = All-nil (ComesBefore (snapshot_entry chain snapshot))
others_behind snapshot chain (next ∷ chains) (other ∷ snapshots) all =
    All-cons (ComesBefore (snapshot_entry chain snapshot)) (snapshot_entry next other) (snapshot_entries chains snapshots) (comes_before snapshot other chain next (All-head (StandsBefore snapshot) other snapshots all))
    (others_behind snapshot chain chains snapshots (All-tail (StandsBefore snapshot) other snapshots all))

rising : (chains : List HeldChain) (snapshots : List Snapshot) → AllPairs StandsBefore snapshots → AllPairs ComesBefore (snapshot_entries chains snapshots)
rising [] snapshots all = λ i j d order within. absurd (omega (arith, within))
rising (chain ∷ chains) [] all = λ i j d order within. absurd (omega (arith, within))
rising (chain ∷ chains) (snapshot ∷ snapshots) all =
    let first : All (StandsBefore snapshot) snapshots = λ k d within. all 0 (suc k) d (omega arith) (omega (arith, within)) in
    let others : AllPairs StandsBefore snapshots = λ i j d order within. all (suc i) (suc j) d (omega (arith, order)) (omega (arith, within)) in
    AllPairs-cons ComesBefore (snapshot_entry chain snapshot) (snapshot_entries chains snapshots) (others_behind snapshot chain chains snapshots first) (rising chains snapshots others)

pub are_snapshots : (chains : List HeldChain) (parts : List TableTranscript) (more : List HeldChain) (snapshots : List Snapshot) → texts_of chains ≡ map text_for (map table_of parts) → texts_of more ≡ map bytes_of snapshots → AreUnder more
    → All (IsCounted (map (λ (part : TableTranscript). part.kept) parts)) snapshots → AllPairs StandsBefore snapshots → length snapshots ≤ 4096 → AreSnapshots (entries_for chains (map table_of parts)) (snapshot_entries more snapshots)
are_snapshots chains parts more snapshots same bytes under counted all few =
    record {
      each = each_fits chains parts more snapshots same bytes under counted;
      rising = rising more snapshots all;
      few = omega (arith, few, entries_long more snapshots bytes);
    }
