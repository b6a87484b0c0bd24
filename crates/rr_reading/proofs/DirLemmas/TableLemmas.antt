-- The bytes of kits, tables and directories tell what they spell.
use Rattle.std.proofs.Common.{◌≡◌, ◌≢◌, Option, None, Some, ℕ, ◌+◌, ◌^◌, ◌<◌, ◌≤◌, List, [], ◌∷◌, ◌++◌, length, get_or, refl, sym, ap, ◌∙◌, subst, arith, length-append, append_assoc}
use Rattle.std.specs.List.{flat_map, All, Any}
use Rattle.std.proofs.lemmas.List.{flat_map_more, get_or_append_left, get_or_at, get_or_default}
use Rattle.std.proofs.lemmas.List.Elements.{All-nil, All-push}
use Rattle.std.proofs.lemmas.List.Quantifiers.{all_pairs_push}
use Rattle.rr_reading.specs.declared.dir.directory.KitChains.{KitChains}
use Rattle.rr_reading.specs.declared.dir.directory.TableEntry.{TableEntry}
use Rattle.rr_reading.specs.declared.dir.version.Version.{Version}
use Rattle.rr_reading.specs.declared.dir.version.Version.TheVariants.{One, Two}
use Rattle.rr_words.specs.Spelling.Number.{spelled_number}
use Rattle.rr_reading.specs.Dir.Directory.{Directory, FitsVersion, IsDirectory, Spells, spelled_bank, spelled_rest, spelled_chain, spelled_kit, spelled_name, spelled_snapshots, spelled_state, spelled_table, spelled_tables, HasChains, FitsBytes, HaveOwnNames, IsKit, IsTable, AreTables, AreSnapshots, BeginsTables}
use Rattle.rr_reading.specs.Dir.Heads.{Heads, heads_of}
use Rattle.rr_words.proofs.SpellingLemmas.NumberLemmas.{length-spelled_number}
use Rattle.rr_reading.proofs.DirLemmas.ChainRefLemmas.{IsChain-text, cut_chain, length-spelled_chain}
use Rattle.rr_reading.proofs.DirLemmas.NumberLemmas.{cut_number}
use Rattle.rr_reading.proofs.DirLemmas.PieceLemmas.{IsNext, cut_list, cut_same, next_of}
use Rattle.rr_reading.proofs.DirLemmas.SnapshotLemmas.{one_snapshots}
use Rattle.rr_reading.proofs.DirLemmas.VersionLemmas.{one_version}

pub HasChains-kit : (k : KitChains) → IsKit k → HasChains k
HasChains-kit k is = record { is_chart = IsChain-text k.chart is.is_chart; is_roster = IsChain-text k.roster is.is_roster; is_tiles = IsChain-text k.tiles is.is_tiles; is_board = IsChain-text k.board is.is_board }

pub cut_kit : (k l : KitChains) (r s : List ℕ) → HasChains k → HasChains l → spelled_kit k ++ r ≡ spelled_kit l ++ s → (k ≡ l) × (r ≡ s)
cut_kit k l r s is_k is_l same =
    let there : spelled_chain k.chart ++ (spelled_chain k.roster ++ (spelled_chain k.tiles ++ (spelled_chain k.board ++ r)))
    ≡ spelled_chain l.chart ++ (spelled_chain l.roster ++ (spelled_chain l.tiles ++ (spelled_chain l.board ++ s))) = sym (apart k r) ∙ same ∙ apart l s in
    let chart = cut_chain k.chart l.chart _ _ is_k.is_chart is_l.is_chart there in
    let roster = cut_chain k.roster l.roster _ _ is_k.is_roster is_l.is_roster chart.1 in
    let tiles = cut_chain k.tiles l.tiles _ _ is_k.is_tiles is_l.is_tiles roster.1 in
    let board = cut_chain k.board l.board r s is_k.is_board is_l.is_board tiles.1 in
    (λ i. record { chart = chart.0 i; roster = roster.0 i; tiles = tiles.0 i; board = board.0 i }, board.1)
  where
    apart : (k : KitChains) (r : List ℕ) → spelled_kit k ++ r ≡ spelled_chain k.chart ++ (spelled_chain k.roster ++ (spelled_chain k.tiles ++ (spelled_chain k.board ++ r)))
    apart k r =
        append_assoc (spelled_chain k.chart) (spelled_chain k.roster ++ (spelled_chain k.tiles ++ spelled_chain k.board)) r
        ∙ ap (λ (xs : List ℕ). spelled_chain k.chart ++ xs) (append_assoc (spelled_chain k.roster) (spelled_chain k.tiles ++ spelled_chain k.board) r
        ∙ ap (λ (xs : List ℕ). spelled_chain k.roster ++ xs) (append_assoc (spelled_chain k.tiles) (spelled_chain k.board) r))

pub length-spelled_kit : (k : KitChains) → length (spelled_kit k) ≡ 48
length-spelled_kit k =
    let b = spelled_chain k.roster in
    let c = spelled_chain k.tiles in
    let d = spelled_chain k.board in
    omega (
      arith,
      length-append (spelled_chain k.chart) (b ++ (c ++ d)),
      length-append b (c ++ d),
      length-append c d,
      length-spelled_chain k.chart,
      length-spelled_chain k.roster,
      length-spelled_chain k.tiles,
      length-spelled_chain k.board,
    )

-- names of any bytes
pub cut_name : (a b : List ℕ) (r s : List ℕ) → spelled_name a ++ r ≡ spelled_name b ++ s → (a ≡ b) × (r ≡ s)
cut_name a b r s same =
    let count : length a ≡ length b = cc in
    let rest : a ++ r ≡ b ++ s = cc in
    cut_same a b r s count rest

pub length-spelled_state : (t : TableEntry) → length (spelled_state t) ≡ 28
length-spelled_state t =
    let b = spelled_number 4 t.floor in
    let c = spelled_number 4 t.kept in
    let d = spelled_chain t.chain in
    omega (
      arith,
      length-append (spelled_number 8 t.stamp) (b ++ (c ++ d)),
      length-append b (c ++ d),
      length-append c d,
      length-spelled_number 8 t.stamp,
      length-spelled_number 4 t.floor,
      length-spelled_number 4 t.kept,
      length-spelled_chain t.chain,
    )

pub FitsBytes-table : (t : TableEntry) → IsTable t → FitsBytes t
FitsBytes-table t is = record { stamped = omega (arith, is.stamped); floored = is.floored; counted = omega (arith, is.few_kept); is_chain = is.is_chain }

pub cut_state : (t u : TableEntry) (r s : List ℕ) → t.name ≡ u.name → FitsBytes t → FitsBytes u → spelled_state t ++ r ≡ spelled_state u ++ s → (t ≡ u) × (r ≡ s)
cut_state t u r s name is_t is_u same =
    let there : spelled_number 8 t.stamp ++ (spelled_number 4 t.floor ++ (spelled_number 4 t.kept ++ (spelled_chain t.chain ++ r)))
    ≡ spelled_number 8 u.stamp ++ (spelled_number 4 u.floor ++ (spelled_number 4 u.kept ++ (spelled_chain u.chain ++ s))) = sym (apart t r) ∙ same ∙ apart u s in
    let stamp = cut_number 8 t.stamp u.stamp _ _ (omega (arith, is_t.stamped)) (omega (arith, is_u.stamped)) there in
    let floor = cut_number 4 t.floor u.floor _ _ (omega (arith, is_t.floored)) (omega (arith, is_u.floored)) stamp.1 in
    let kept = cut_number 4 t.kept u.kept _ _ (omega (arith, is_t.counted)) (omega (arith, is_u.counted)) floor.1 in
    let chain = cut_chain t.chain u.chain r s is_t.is_chain is_u.is_chain kept.1 in
    (λ i. record { name = name i; stamp = stamp.0 i; floor = floor.0 i; kept = kept.0 i; chain = chain.0 i }, chain.1)
  where
    apart : (t : TableEntry) (r : List ℕ) → spelled_state t ++ r ≡ spelled_number 8 t.stamp ++ (spelled_number 4 t.floor ++ (spelled_number 4 t.kept ++ (spelled_chain t.chain ++ r)))
    apart t r =
        append_assoc (spelled_number 8 t.stamp) (spelled_number 4 t.floor ++ (spelled_number 4 t.kept ++ spelled_chain t.chain)) r
        ∙ ap (λ (xs : List ℕ). spelled_number 8 t.stamp ++ xs) (append_assoc (spelled_number 4 t.floor) (spelled_number 4 t.kept ++ spelled_chain t.chain) r
        ∙ ap (λ (xs : List ℕ). spelled_number 4 t.floor ++ xs) (append_assoc (spelled_number 4 t.kept) (spelled_chain t.chain) r))

pub cut_table : (t u : TableEntry) (r s : List ℕ) → IsTable t → IsTable u → spelled_table t ++ r ≡ spelled_table u ++ s → (t ≡ u) × (r ≡ s)
cut_table t u r s is_t is_u same =
    let there : spelled_name t.name ++ (spelled_state t ++ r) ≡ spelled_name u.name ++ (spelled_state u ++ s) =
    sym (append_assoc (spelled_name t.name) (spelled_state t) r) ∙ same ∙ append_assoc (spelled_name u.name) (spelled_state u) s in
    let name = cut_name t.name u.name _ _ there in
    cut_state t u r s name.0 (FitsBytes-table t is_t) (FitsBytes-table u is_u) name.1

pub cut_tables : (ts us : List TableEntry) (r s : List ℕ) → AreTables ts → AreTables us → spelled_tables ts ++ r ≡ spelled_tables us ++ s → (ts ≡ us) × (r ≡ s)
cut_tables ts us r s are_ts are_us same =
    let there : spelled_number 2 (length ts) ++ (flat_map spelled_table ts ++ r) ≡ spelled_number 2 (length us) ++ (flat_map spelled_table us ++ s) =
    sym (append_assoc (spelled_number 2 (length ts)) (flat_map spelled_table ts) r) ∙ same ∙ append_assoc (spelled_number 2 (length us)) (flat_map spelled_table us) s in
    let count = cut_number 2 (length ts) (length us) (flat_map spelled_table ts ++ r) (flat_map spelled_table us ++ s) (omega (arith, are_ts.few)) (omega (arith, are_us.few)) there in
    cut_list spelled_table IsTable cut_table ts us r s are_ts.each are_us.each count.0 count.1

-- after one bank there is one directory
one_rest : (d e : Directory) → IsDirectory d → IsDirectory e → d.bank ≡ e.bank → spelled_rest d ≡ spelled_rest e → d ≡ e
one_rest d e is_d is_e bank same =
    let kit = cut_kit d.kit e.kit (spelled_tables d.tables ++ spelled_snapshots d.snapshots) (spelled_tables e.tables ++ spelled_snapshots e.snapshots) (HasChains-kit d.kit is_d.is_kit) (HasChains-kit e.kit is_e.is_kit) same in
    let tables = cut_tables d.tables e.tables (spelled_snapshots d.snapshots) (spelled_snapshots e.snapshots) is_d.are_tables is_e.are_tables kit.1 in
    let are : AreSnapshots d.tables e.snapshots = subst (λ (ts : List TableEntry). AreSnapshots ts e.snapshots) (sym tables.0) is_e.are_snapshots in
    let snapshots = one_snapshots d.tables is_d.are_tables d.snapshots e.snapshots is_d.are_snapshots are tables.1 in
    λ i. record { bank = bank i; kit = kit.0 i; tables = tables.0 i; snapshots = snapshots i }

none_said : (bank other : Option ℕ) → FitsVersion One bank → FitsVersion One other → bank ≡ other
none_said None None is also = refl
none_said None (Some other) is also = absurd also
none_said (Some bank) other is also = absurd is

-- banks before other bytes are equal if all these bytes are
pub cut_bank : (bank other : Option ℕ) (r s : List ℕ) → FitsVersion Two bank → FitsVersion Two other → spelled_bank bank ++ r ≡ spelled_bank other ++ s → (bank ≡ other) × (r ≡ s)
cut_bank None other r s is also same = absurd is
cut_bank (Some bank) None r s is also same = absurd also
cut_bank (Some bank) (Some other) r s is also same =
    let cut = cut_number 8 bank other r s (omega (arith, is)) (omega (arith, also)) same in
    (ap (λ (n : ℕ). Some n) cut.0, cut.1)

-- the bytes of a directory of the second version begin with its bank
bank_said : (bytes : List ℕ) (d : Directory) (bank : Option ℕ) → FitsVersion Two bank → bytes ≡ spelled_bank bank ++ spelled_rest d → (n : ℕ) × (n < 256 ^ 8) × (bytes ≡ spelled_number 8 n ++ spelled_rest d)
bank_said bytes d None has is = absurd has
bank_said bytes d (Some bank) has is = (bank, omega (arith, has), is)

pub bank_in_front : (bytes : List ℕ) (d : Directory) → Spells Two bytes d → (n : ℕ) × (n < 256 ^ 8) × (bytes ≡ spelled_number 8 n ++ spelled_rest d)
bank_in_front bytes d spells = bank_said bytes d d.bank spells.banked spells.spelled

pub long_enough : (bytes : List ℕ) (d : Directory) → Spells Two bytes d → 8 ≤ length bytes
long_enough bytes d spells =
    let front = bank_in_front bytes d spells in
    omega (arith, ap (λ (xs : List ℕ). length xs) front.2, length-append (spelled_number 8 front.0) (spelled_rest d), length-spelled_number 8 front.0)

pub one_directory : (version : Version) (bytes : List ℕ) (d e : Directory) → Spells version bytes d → Spells version bytes e → d ≡ e
one_directory One bytes d e first second =
    one_rest d e first.is_directory second.is_directory (none_said d.bank e.bank first.banked second.banked) (sym first.spelled ∙ second.spelled)
one_directory Two bytes d e first second =
    let cut = cut_bank d.bank e.bank (spelled_rest d) (spelled_rest e) first.banked second.banked (sym first.spelled ∙ second.spelled) in
    one_rest d e first.is_directory second.is_directory cut.0 cut.1

pub one_heads : (number : ℕ) (bytes : List ℕ) (a b : List (ℕ × ℕ)) → Heads number bytes a → Heads number bytes b → a ≡ b
one_heads number bytes a b first second =
    let same : first.directory ≡ second.directory =
    one_directory first.version bytes first.directory second.directory first.spelled (subst (λ (v : Version). Spells v bytes second.directory) (one_version second.version first.version (second.numbered ∙ sym first.numbered)) second.spelled) in
    first.named ∙ ap heads_of same ∙ sym second.named

-- so many tables were read from the front of these bytes, and this is left
pub record ReadsTables (bytes : List ℕ) (tables : List TableEntry) (count : ℕ) (rest : List ℕ) : Type 0 where
  pub each : All IsTable tables
  pub own_names : HaveOwnNames tables
  pub counted : length tables ≡ count
  pub spelled : bytes ≡ flat_map spelled_table tables ++ rest

pub tables_none : (bytes : List ℕ) → ReadsTables bytes [] 0 bytes
tables_none bytes = record { each = All-nil IsTable; own_names = λ i j d before within. absurd (omega (arith, within)); counted = refl; spelled = refl }

pub tables_more : (bytes : List ℕ) (tables : List TableEntry) (i : ℕ) (rest : List ℕ) (table : TableEntry) (new : List ℕ) → ReadsTables bytes tables i rest → IsTable table → rest ≡ spelled_table table ++ new → (Any (λ (other : TableEntry). other.name ≡ table.name) tables → ⊥) → ReadsTables bytes (tables ++ table ∷ []) (i + 1) new
tables_more bytes tables i rest table new so_far is read other_name =
    record {
      each = All-push IsTable tables table so_far.each is;
      own_names = all_pairs_push (λ (t u : TableEntry). t.name ≢ u.name) tables table so_far.own_names (λ k d within same. other_name (k, get_or tables k d, within, get_or_default tables k (get_or tables k d) d within, same));
      counted = omega (arith, so_far.counted, length-append tables (table ∷ []));
      spelled =
          so_far.spelled ∙ ap (λ (xs : List ℕ). flat_map spelled_table tables ++ xs) read
          ∙ sym (append_assoc (flat_map spelled_table tables) (spelled_table table) new)
          ∙ ap (λ (xs : List ℕ). xs ++ new) (flat_map_more spelled_table [] tables table);
    }

-- one more was read, so that tables begin there
pub tables_begun : (bytes mid : List ℕ) (tables : List TableEntry) (i count : ℕ) (rest : List ℕ) (table : TableEntry) (new : List ℕ) → count ≤ 64 → bytes ≡ spelled_number 2 count ++ mid → ReadsTables mid tables i rest → i < count
    → IsTable table → rest ≡ spelled_table table ++ new → BeginsTables bytes
tables_begun bytes mid [] i count rest table new few read so_far more is here =
    record { count = count; some = omega (arith, more); few = few; table = table; is_table = is; rest = new; spelled = read ∙ ap (λ (xs : List ℕ). spelled_number 2 count ++ xs) (so_far.spelled ∙ here) }
tables_begun bytes mid (first ∷ tables) i count rest table new few read so_far more is here =
    record {
      count = count;
      some = omega (arith, more);
      few = few;
      table = first;
      is_table = so_far.each 0 first (omega arith);
      rest = flat_map spelled_table tables ++ rest;
      spelled = read ∙ ap (λ (xs : List ℕ). spelled_number 2 count ++ xs) (so_far.spelled ∙ append_assoc (spelled_table first) (flat_map spelled_table tables) rest);
    }

-- of some tables so many were read, and more are left
module _ (bytes : List ℕ) (tables : List TableEntry) (i count : ℕ) (rest : List ℕ) (so_far : ReadsTables bytes tables i rest) (more : i < count) (all : List TableEntry) (r : List ℕ) (are : AreTables all) (counted : length all ≡ count) (spelled : bytes ≡ flat_map spelled_table all ++ r) where
  left : IsNext spelled_table IsTable tables all rest r
  left = next_of spelled_table IsTable cut_table tables all rest r so_far.each are.each (omega (arith, so_far.counted, more, counted)) (sym so_far.spelled ∙ spelled)

  -- then one stands there
  pub tables_damaged : ((table : TableEntry) (new : List ℕ) → IsTable table → rest ≢ spelled_table table ++ new) → ⊥
  tables_damaged none = none left.next (flat_map spelled_table left.others ++ r) left.is left.begins

  -- and it has a name of its own
  pub tables_twice : (table : TableEntry) (new : List ℕ) → IsTable table → rest ≡ spelled_table table ++ new → Any (λ (other : TableEntry). other.name ≡ table.name) tables → ⊥
  tables_twice table new is_table read named =
      let first = left.next in
      let others = left.others in
      let whole = left.whole in
      let one = (cut_table table first new (flat_map spelled_table others ++ r) is_table left.is (sym read ∙ left.begins)).0 in
      let k = named.0 in
      let x = named.1 in
      let there : get_or all k x ≡ x = ap (λ (ts : List TableEntry). get_or ts k x) whole ∙ get_or_append_left tables (first ∷ others) x k named.2 ∙ named.3 in
      let here : get_or all (length tables) x ≡ first = ap (λ (ts : List TableEntry). get_or ts (length tables) x) whole ∙ get_or_at tables first others x (length tables) refl in
      are.own_names k (length tables) x named.2 (omega (arith, so_far.counted, more, counted))
      (ap (λ (t : TableEntry). t.name) there ∙ named.4 ∙ ap (λ (t : TableEntry). t.name) one ∙ sym (ap (λ (t : TableEntry). t.name) here))

-- the count stands before the tables
pub counted_tables : (bytes : List ℕ) (count : ℕ) (rest : List ℕ) (all : List TableEntry) (r : List ℕ) → count ≤ 64 → bytes ≡ spelled_number 2 count ++ rest → AreTables all → bytes ≡ spelled_tables all ++ r → (length all ≡ count) × (rest ≡ flat_map spelled_table all ++ r)
counted_tables bytes count rest all r few read are spelled =
    let cut = cut_number 2 (length all) count (flat_map spelled_table all ++ r) rest (omega (arith, are.few)) (omega (arith, few)) (sym (append_assoc (spelled_number 2 (length all)) (flat_map spelled_table all) r) ∙ sym spelled ∙ read) in
    (cut.0, sym cut.1)

-- some that stand in front of other bytes begin there
pub tables_begin : (bytes rest : List ℕ) (tables : List TableEntry) → AreTables tables → bytes ≡ spelled_tables tables ++ rest → 1 ≤ length tables → BeginsTables bytes
tables_begin bytes rest [] are read some = absurd (omega (arith, some))
tables_begin bytes rest (first ∷ tables) are read some =
    let count = length (first ∷ tables) in
    record {
      count = count;
      some = some;
      few = are.few;
      table = first;
      is_table = are.each 0 first (omega arith);
      rest = flat_map spelled_table tables ++ rest;
      spelled =
          read ∙ append_assoc (spelled_number 2 count) (flat_map spelled_table (first ∷ tables)) rest
          ∙ ap (λ (xs : List ℕ). spelled_number 2 count ++ xs) (append_assoc (spelled_table first) (flat_map spelled_table tables) rest);
    }
