-- The bytes of snapshots tell what they spell.
use Rattle.std.proofs.Common.{◌≡◌, ◌≢◌, ◌↔◌, ℕ, ◌+◌, ◌-◌, ◌^◌, ◌<◌, ◌≤◌, List, [], ◌∷◌, ◌++◌, length, get_or, Some, inl, inr, below_more, refl, sym, ap, ◌∙◌, subst, arith, length-append, append_assoc}
use Rattle.std.specs.List.{flat_map, slice_get, All, AllPairs}
use Rattle.std.proofs.lemmas.List.{append-nil, flat_map_more, get_or_append_left, get_or_at}
use Rattle.std.proofs.lemmas.List.Elements.{All-nil, All-push}
use Rattle.std.proofs.lemmas.List.Quantifiers.{all_pairs_push}
use Rattle.std.proofs.lemmas.Option.{get_or_from_slice_get, slice_get_within}
use Rattle.rr_reading.specs.declared.dir.directory.SnapshotEntry.{SnapshotEntry}
use Rattle.rr_reading.specs.declared.dir.directory.TableEntry.{TableEntry}
use Rattle.rr_words.specs.Spelling.Number.{spelled_number}
use Rattle.rr_reading.specs.Dir.Directory.{spelled_chain, spelled_snapshot, spelled_snapshots, AreSnapshots, AreTables, ComesBefore, IsChain, IsSnapshot, IsTable}
use Rattle.rr_words.proofs.SpellingLemmas.NumberLemmas.{length-spelled_number}
use Rattle.rr_reading.proofs.DirLemmas.ChainRefLemmas.{cut_chain, length-spelled_chain}
use Rattle.rr_reading.proofs.DirLemmas.NumberLemmas.{cut_number}
use Rattle.rr_reading.proofs.DirLemmas.PieceLemmas.{IsNext, cut_list, next_of, one_list}

pub length-spelled_snapshot : (s : SnapshotEntry) → length (spelled_snapshot s) ≡ 18
length-spelled_snapshot s =
    let b = spelled_number 4 s.kept in
    let c = spelled_chain s.chain in
    omega (arith, length-append (spelled_number 2 s.table) (b ++ c), length-append b c, length-spelled_number 2 s.table, length-spelled_number 4 s.kept, length-spelled_chain s.chain)

-- its numbers are of so many bytes
pub record SnapshotFits (s : SnapshotEntry) : Type 0 where
  pub placed : s.table < 2 ^ 16
  pub counted : s.kept < 2 ^ 32
  pub is_chain : IsChain s.chain

pub cut_snapshot : (s t : SnapshotEntry) (r q : List ℕ) → SnapshotFits s → SnapshotFits t → spelled_snapshot s ++ r ≡ spelled_snapshot t ++ q → (s ≡ t) × (r ≡ q)
cut_snapshot s t r q fits_s fits_t same =
    let there : spelled_number 2 s.table ++ (spelled_number 4 s.kept ++ (spelled_chain s.chain ++ r)) ≡ spelled_number 2 t.table ++ (spelled_number 4 t.kept ++ (spelled_chain t.chain ++ q)) =
    sym (apart s r) ∙ same ∙ apart t q in
    let table = cut_number 2 s.table t.table _ _ (omega (arith, fits_s.placed)) (omega (arith, fits_t.placed)) there in
    let kept = cut_number 4 s.kept t.kept _ _ (omega (arith, fits_s.counted)) (omega (arith, fits_t.counted)) table.1 in
    let chain = cut_chain s.chain t.chain r q fits_s.is_chain fits_t.is_chain kept.1 in
    (λ i. record { table = table.0 i; kept = kept.0 i; chain = chain.0 i }, chain.1)
  where
    apart : (s : SnapshotEntry) (r : List ℕ) → spelled_snapshot s ++ r ≡ spelled_number 2 s.table ++ (spelled_number 4 s.kept ++ (spelled_chain s.chain ++ r))
    apart s r =
        append_assoc (spelled_number 2 s.table) (spelled_number 4 s.kept ++ spelled_chain s.chain) r
        ∙ ap (λ (xs : List ℕ). spelled_number 2 s.table ++ xs) (append_assoc (spelled_number 4 s.kept) (spelled_chain s.chain) r)

-- one of these tables
module _ (tables : List TableEntry) (are : AreTables tables) where
  pub SnapshotFits-snapshot : (s : SnapshotEntry) → IsSnapshot tables s → SnapshotFits s
  SnapshotFits-snapshot s is =
      let inside : s.table < length tables = slice_get_within tables s.table is.table is.of_table in
      let here : IsTable is.table = subst IsTable (get_or_from_slice_get tables s.table is.table is.table is.of_table) (are.each s.table is.table inside) in
      record { placed = omega (arith, inside, are.few); counted = omega (arith, is.within, here.few_kept); is_chain = record { page = is.page; long = omega (arith, is.short) } }

  pub cut_of_tables : (s t : SnapshotEntry) (r q : List ℕ) → IsSnapshot tables s → IsSnapshot tables t → spelled_snapshot s ++ r ≡ spelled_snapshot t ++ q → (s ≡ t) × (r ≡ q)
  cut_of_tables s t r q is_s is_t same = cut_snapshot s t r q (SnapshotFits-snapshot s is_s) (SnapshotFits-snapshot t is_t) same

  some_snapshot : (s : SnapshotEntry) → 1 ≤ length (spelled_snapshot s)
  some_snapshot s = omega (arith, length-spelled_snapshot s)

  none_or_some : (s : SnapshotEntry) (others : List SnapshotEntry) → [] ≡ spelled_snapshots (s ∷ others) → ⊥
  none_or_some s others same =
      let front = spelled_number 2 (length (s ∷ others)) in
      omega (arith, ap length same, length-append front (flat_map spelled_snapshot (s ∷ others)), length-spelled_number 2 (length (s ∷ others)))

  -- the count is spelled as well, and at least one
  pub one_snapshots : (xs ys : List SnapshotEntry) → AreSnapshots tables xs → AreSnapshots tables ys → spelled_snapshots xs ≡ spelled_snapshots ys → xs ≡ ys
  one_snapshots [] [] a b same = refl
  one_snapshots [] (y ∷ ys) a b same = absurd (none_or_some y ys same)
  one_snapshots (x ∷ xs) [] a b same = absurd (none_or_some x xs (sym same))
  one_snapshots (x ∷ xs) (y ∷ ys) a b same =
      let count = cut_number 2 (length (x ∷ xs)) (length (y ∷ ys)) (flat_map spelled_snapshot (x ∷ xs)) (flat_map spelled_snapshot (y ∷ ys)) (omega (arith, a.few)) (omega (arith, b.few)) same in
      one_list spelled_snapshot (IsSnapshot tables) cut_of_tables some_snapshot (x ∷ xs) (y ∷ ys) a.each b.each count.1

-- so many snapshots of these tables were read from the front of these bytes, and this is left
pub record ReadsSnapshots (tables : List TableEntry) (bytes : List ℕ) (snapshots : List SnapshotEntry) (count : ℕ) (rest : List ℕ) : Type 0 where
  pub each : All (IsSnapshot tables) snapshots
  pub rising : AllPairs ComesBefore snapshots
  pub counted : length snapshots ≡ count
  pub spelled : bytes ≡ flat_map spelled_snapshot snapshots ++ rest

pub snapshots_none : (tables : List TableEntry) (bytes : List ℕ) → ReadsSnapshots tables bytes [] 0 bytes
snapshots_none tables bytes = record { each = All-nil (IsSnapshot tables); rising = λ i j d before within. absurd (omega (arith, within)); counted = refl; spelled = refl }

pub snapshots_more : (tables : List TableEntry) (bytes : List ℕ) (snapshots : List SnapshotEntry) (i : ℕ) (rest : List ℕ) (snapshot : SnapshotEntry) (new : List ℕ) → ReadsSnapshots tables bytes snapshots i rest → IsSnapshot tables snapshot
    → rest ≡ spelled_snapshot snapshot ++ new → All (λ (other : SnapshotEntry). ComesBefore other snapshot) snapshots → ReadsSnapshots tables bytes (snapshots ++ snapshot ∷ []) (i + 1) new
snapshots_more tables bytes snapshots i rest snapshot new so_far is read behind =
    record {
      each = All-push (IsSnapshot tables) snapshots snapshot so_far.each is;
      rising = all_pairs_push ComesBefore snapshots snapshot so_far.rising behind;
      counted = omega (arith, so_far.counted, length-append snapshots (snapshot ∷ []));
      spelled =
          so_far.spelled ∙ ap (λ (xs : List ℕ). flat_map spelled_snapshot snapshots ++ xs) read
          ∙ sym (append_assoc (flat_map spelled_snapshot snapshots) (spelled_snapshot snapshot) new)
          ∙ ap (λ (xs : List ℕ). xs ++ new) (flat_map_more spelled_snapshot [] snapshots snapshot);
    }

-- of some snapshots so many were read, and more are left
module _ (tables : List TableEntry) (are : AreTables tables) (bytes : List ℕ) (snapshots : List SnapshotEntry) (i count : ℕ) (rest : List ℕ) (so_far : ReadsSnapshots tables bytes snapshots i rest) (more : i < count) (all : List SnapshotEntry) (r : List ℕ)
    (counted : length all ≡ count) (each : All (IsSnapshot tables) all) (rising : AllPairs ComesBefore all) (spelled : bytes ≡ flat_map spelled_snapshot all ++ r) where
  left : IsNext spelled_snapshot (IsSnapshot tables) snapshots all rest r
  left = next_of spelled_snapshot (IsSnapshot tables) (cut_of_tables tables are) snapshots all rest r so_far.each each (omega (arith, so_far.counted, more, counted)) (sym so_far.spelled ∙ spelled)

  -- then one stands there
  pub snapshots_damaged : ((snapshot : SnapshotEntry) (new : List ℕ) → IsSnapshot tables snapshot → rest ≢ spelled_snapshot snapshot ++ new) → ⊥
  snapshots_damaged none = none left.next (flat_map spelled_snapshot left.others ++ r) left.is left.begins

  -- and it comes behind those that were read
  pub snapshots_fallen : (snapshot : SnapshotEntry) (new : List ℕ) → IsSnapshot tables snapshot → rest ≡ spelled_snapshot snapshot ++ new → (All (λ (other : SnapshotEntry). ComesBefore other snapshot) snapshots → ⊥) → ⊥
  snapshots_fallen snapshot new is read fallen =
      let next = left.next in
      let others = left.others in
      let one : next ≡ snapshot = (cut_of_tables tables are next snapshot (flat_map spelled_snapshot others ++ r) new left.is is (sym left.begins ∙ read)).0 in
      let rise : AllPairs ComesBefore (snapshots ++ next ∷ others) = subst (AllPairs ComesBefore) left.whole rising in
      let inside : length snapshots < length (snapshots ++ next ∷ others) = omega (arith, length-append snapshots (next ∷ others)) in
      fallen (λ k d within.
      subst (λ (s : SnapshotEntry). ComesBefore (get_or snapshots k d) s) (get_or_at snapshots next others d (length snapshots) refl ∙ one)
      (subst (λ (s : SnapshotEntry). ComesBefore s (get_or (snapshots ++ next ∷ others) (length snapshots) d)) (get_or_append_left snapshots (next ∷ others) d k within) (rise k (length snapshots) d within inside)))

-- what comes behind the last comes behind all
comes_on : (s t u : SnapshotEntry) → ComesBefore s t → ComesBefore t u → ComesBefore s u
comes_on s t u (inl a) (inl b) = inl (omega (arith, a, b))
comes_on s t u (inl a) (inr b) = inl (omega (arith, a, b.0))
comes_on s t u (inr a) (inl b) = inl (omega (arith, a.0, b))
comes_on s t u (inr a) (inr b) = inr (a.0 ∙ b.0, omega (arith, a.1, b.1))

pub behind_last : (snapshots : List SnapshotEntry) (last snapshot : SnapshotEntry) → slice_get snapshots (length snapshots - 1) ≡ Some last → AllPairs ComesBefore snapshots → ComesBefore last snapshot ↔ All (λ (other : SnapshotEntry). ComesBefore other snapshot) snapshots
behind_last snapshots last snapshot is rising = (each, at_last)
  where
    place : ℕ
    place = length snapshots - 1

    some : place < length snapshots
    some = slice_get_within snapshots place last is

    here : (d : SnapshotEntry) → get_or snapshots place d ≡ last
    here d = get_or_from_slice_get snapshots place last d is

    each : ComesBefore last snapshot → All (λ (other : SnapshotEntry). ComesBefore other snapshot) snapshots
    each before k d within =
        below_more (λ (j : ℕ). ComesBefore (get_or snapshots j d) snapshot) place
        (λ j earlier. comes_on (get_or snapshots j d) last snapshot (subst (ComesBefore (get_or snapshots j d)) (here d) (rising j place d earlier some)) before)
        (subst (λ (s : SnapshotEntry). ComesBefore s snapshot) (sym (here d)) before)
        k (omega (arith, within, some))

    at_last : All (λ (other : SnapshotEntry). ComesBefore other snapshot) snapshots → ComesBefore last snapshot
    at_last all = subst (λ (s : SnapshotEntry). ComesBefore s snapshot) (here last) (all place last some)

-- bytes that aren't empty begin with how many there are
some_spelled : (bytes : List ℕ) (all : List SnapshotEntry) → bytes ≢ [] → bytes ≡ spelled_snapshots all → bytes ≡ spelled_number 2 (length all) ++ flat_map spelled_snapshot all
some_spelled bytes [] some same = absurd (some same)
some_spelled bytes (first ∷ others) some same = same

-- that many stand behind the count that was read
pub counted_snapshots : (bytes : List ℕ) (count : ℕ) (rest : List ℕ) (all : List SnapshotEntry) → bytes ≢ [] → count ≤ 4096 → bytes ≡ spelled_number 2 count ++ rest → length all ≤ 4096 → bytes ≡ spelled_snapshots all → (length all ≡ count) × (rest ≡ flat_map spelled_snapshot all)
counted_snapshots bytes count rest all some few read few_all same =
    let spelled = some_spelled bytes all some same in
    let cut = cut_number 2 (length all) count (flat_map spelled_snapshot all) rest (omega (arith, few_all)) (omega (arith, few)) (sym spelled ∙ read) in
    (cut.0, sym cut.1)

-- nothing stands behind all of them
pub snapshots_end : (tables : List TableEntry) → AreTables tables → (xs all : List SnapshotEntry) (rest : List ℕ) → All (IsSnapshot tables) xs → All (IsSnapshot tables) all → length xs ≡ length all → flat_map spelled_snapshot xs ++ rest ≡ flat_map spelled_snapshot all → rest ≡ []
snapshots_end tables are xs all rest each each_all counted same =
    (cut_list spelled_snapshot (IsSnapshot tables) (cut_of_tables tables are) xs all rest [] each each_all counted (same ∙ sym (append-nil (flat_map spelled_snapshot all)))).1
