-- What is written of a world is read back, and nothing else is.
use Rattle.std.proofs.Common.{◌≡◌, ℕ, Option, List, [], ◌∷◌, ◌++◌, length, map, refl, sym, ◌∙◌, subst, ap, arith}
use Rattle.std.proofs.lemmas.List.{length-map}
use Rattle.std.proofs.lemmas.List.Elements.{All-cons, All-head, All-nil, All-tail}
use Rattle.rr_reading.specs.declared.dir.directory.ChainRef.{ChainRef}
use Rattle.rr_reading.specs.declared.dir.directory.SnapshotEntry.{SnapshotEntry}
use Rattle.rr_reading.specs.declared.dir.directory.TableEntry.{TableEntry}
use Rattle.rr_reading.specs.declared.dir.version.Version.{Version}
use Rattle.rr_reading.specs.Dir.Directory.{Directory, FitsVersion, IsDirectory, spelling}
use Rattle.rr_reading.specs.Dir.Directory as dir
use Rattle.rr_reading.specs.Dir.Heads.{Heads, head_of, heads_of_tables}
use Rattle.rr_reading.specs.Dir.Heads as named
use Rattle.rr_reading.proofs.DirLemmas.TableLemmas.{one_directory}
use Rattle.rr_images.specs.Holding.{HeldChain, heads_of, texts_of}
use Rattle.rr_pages.specs.Laying as laying
use Rattle.rr_reading.specs.Held.{TextChains, chains_of}
use Rattle.rr_reading.specs.Worlds.World.{AreShort, AreShown, IsShown, Snapshot, Table, World, WorldRules, text_for}
use Rattle.rr_reading.specs.Worlds.Spelling.{HoldTexts, ShowGames, Spells, SpellsTable, SpellsTables, TableChains, all_of, directory_for, entries_for, entry_for, ref_of, snapshot_entries, snapshot_entry}
use Rattle.rr_reading.specs.Worlds.Laws.{IsReadBack, IsWritten}
use Rattle.rr_reading.proofs.DirLemmas.VersionLemmas.{one_version}
use Rattle.rr_reading.proofs.WorldLemmas.Exact.{counted_texts}

abbrev bytes_of : Snapshot → List ℕ
bytes_of snapshot = snapshot.bytes

-- chains behind others
heads_behind : (chains more : List HeldChain) → heads_of (chains ++ more) ≡ heads_of chains ++ heads_of more
heads_behind [] more = refl
heads_behind (chain ∷ chains) more = ap (λ (heads : List (ℕ × ℕ)). (laying.head_of chain.pages, length chain.text) ∷ heads) (heads_behind chains more)

texts_behind : (chains more : List HeldChain) → texts_of (chains ++ more) ≡ texts_of chains ++ texts_of more
texts_behind [] more = refl
texts_behind (chain ∷ chains) more = ap (λ (texts : List (List ℕ)). chain.text ∷ texts) (texts_behind chains more)

-- the heads of tables' chains
entry_heads : (chains : List HeldChain) (tables : List Table) → texts_of chains ≡ map text_for tables → heads_of chains ≡ map (λ (entry : TableEntry). head_of entry.chain) (entries_for chains tables)
entry_heads [] tables same = refl
entry_heads (chain ∷ chains) [] same = absurd (cc)
entry_heads (chain ∷ chains) (table ∷ tables) same =
    let rest : texts_of chains ≡ map text_for tables = cc in
    ap (λ (heads : List (ℕ × ℕ)). (laying.head_of chain.pages, length chain.text) ∷ heads) (entry_heads chains tables rest)

-- and of snapshots'
snapshot_heads : (chains : List HeldChain) (snapshots : List Snapshot) → texts_of chains ≡ map bytes_of snapshots → heads_of chains ≡ map (λ (entry : SnapshotEntry). head_of entry.chain) (snapshot_entries chains snapshots)
snapshot_heads [] snapshots same = refl
snapshot_heads (chain ∷ chains) [] same = absurd (cc)
snapshot_heads (chain ∷ chains) (snapshot ∷ snapshots) same =
    let rest : texts_of chains ≡ map bytes_of snapshots = cc in
    ap (λ (heads : List (ℕ × ℕ)). (laying.head_of chain.pages, length chain.text) ∷ heads) (snapshot_heads chains snapshots rest)

all_heads : (texts : TextChains) (chains : TableChains) (world : World) (snapshots : List Snapshot) → HoldTexts texts chains world snapshots
    → heads_of (all_of chains) ≡ heads_of_tables (entries_for chains.tables world.tables) (snapshot_entries chains.snapshots snapshots)
all_heads texts chains world snapshots holds =
    let tables = entry_heads chains.tables world.tables holds.of_tables in
    let of_snapshots = snapshot_heads chains.snapshots snapshots holds.of_snapshots in
    heads_behind chains.tables chains.snapshots ∙ (λ i. tables i ++ of_snapshots i)

tables_spelled : (chains : List HeldChain) (tables : List Table) → texts_of chains ≡ map text_for tables → AreShort tables → SpellsTables (entries_for chains tables) (texts_of chains) tables
tables_spelled [] [] same short = (refl, refl)
tables_spelled [] (table ∷ tables) same short = absurd (cc)
tables_spelled (chain ∷ chains) [] same short = absurd (cc)
tables_spelled (chain ∷ chains) (table ∷ tables) same short =
    let text : chain.text ≡ text_for table = cc in
    let rest : texts_of chains ≡ map text_for tables = cc in (
      chain.text,
      table,
      texts_of chains,
      tables,
      refl,
      refl,
      record { named = refl; stamped = refl; floored = refl; counted = refl; spelled = record { short = short.0; spelled = text } },
      tables_spelled chains tables rest short.1,
    )

games_shown : (rules : WorldRules) (world : World) (chains : List HeldChain) (snapshots : List Snapshot) → texts_of chains ≡ map bytes_of snapshots → AreShown rules world snapshots → ShowGames rules world (snapshot_entries chains snapshots) (texts_of chains)
games_shown rules world [] snapshots same shown = refl
games_shown rules world (chain ∷ chains) [] same shown = absurd (cc)
games_shown rules world (chain ∷ chains) (snapshot ∷ snapshots) same shown =
    let text : snapshot.bytes ≡ chain.text = cc in
    let rest : texts_of chains ≡ map bytes_of snapshots = cc in
    let first = All-head (λ s. IsShown rules world s.table s.kept s.bytes) snapshot snapshots shown in
    let others = All-tail (λ s. IsShown rules world s.table s.kept s.bytes) snapshot snapshots shown in (
      chain.text,
      texts_of chains,
      refl,
      subst (λ (bytes : List ℕ). IsShown rules world snapshot.table snapshot.kept bytes) text first,
      games_shown rules world chains snapshots rest others,
    )

pub read_back : (rules : WorldRules) (version : Version) (bank : Option ℕ) (texts : TextChains) (chains : TableChains) (world : World) (snapshots : List Snapshot) → HoldTexts texts chains world snapshots → AreShort world.tables → AreShown rules world snapshots
    → FitsVersion version bank → rules.banks world.roster bank → IsDirectory (directory_for bank texts chains world snapshots) → IsReadBack rules version bank texts chains world snapshots
read_back rules version bank texts chains world snapshots holds short shown said banked is =
    record {
      named = record {
        version = version;
        numbered = refl;
        directory = directory_for bank texts chains world snapshots;
        spelled = record { is_directory = is; banked = said; spelled = refl };
        named = ap (λ (heads : List (ℕ × ℕ)). head_of (ref_of texts.chart) ∷ head_of (ref_of texts.roster) ∷ head_of (ref_of texts.tiles) ∷ head_of (ref_of texts.board) ∷ heads) (all_heads texts chains world snapshots holds);
      };
      spells = record {
        version = version;
        numbered = refl;
        directory = directory_for bank texts chains world snapshots;
        spelled = record { is_directory = is; banked = said; spelled = refl };
        banked = banked;
        of_tables = texts_of chains.tables;
        of_snapshots = texts_of chains.snapshots;
        of_chains = λ i. holds.of_chart i ∷ holds.of_roster i ∷ holds.of_tiles i ∷ holds.of_board i ∷ texts_behind chains.tables chains.snapshots i;
        tables = tables_spelled chains.tables world.tables holds.of_tables short;
        snapshots = games_shown rules world chains.snapshots snapshots holds.of_snapshots shown;
      };
    }

-- what spells tables is what is written of them
pub record TablesWritten (entries : List TableEntry) (chains : List HeldChain) (tables : List Table) : Type 0 where
  pub texts : texts_of chains ≡ map text_for tables
  pub short : AreShort tables
  pub entries_are : entries ≡ entries_for chains tables

ref_is : (ref : ChainRef) (chain : HeldChain) → head_of ref ≡ head_of (ref_of chain) → ref ≡ ref_of chain
ref_is ref chain same =
    let head : ref.head ≡ laying.head_of chain.pages = ap (λ (h : ℕ × ℕ). h.0) same in
    let long : ref.length ≡ length chain.text = ap (λ (h : ℕ × ℕ). h.1) same in
    λ i. record { head = head i; length = long i }

tables_written : (entries : List TableEntry) (chains : List HeldChain) (tables : List Table) → heads_of chains ≡ map (λ (entry : TableEntry). head_of entry.chain) entries → SpellsTables entries (texts_of chains) tables → TablesWritten entries chains tables
tables_written [] [] tables heads spells =
    subst (λ (ts : List Table). TablesWritten [] [] ts) (sym spells.1) (record { texts = refl; short = tt; entries_are = refl })
tables_written [] (chain ∷ chains) tables heads spells = absurd (cc)
tables_written (entry ∷ entries) [] tables heads spells = absurd (cc)
tables_written (entry ∷ entries) (chain ∷ chains) tables heads spells =
    let text : spells.0 ≡ chain.text = cc (spells.4) in
    let more : spells.2 ≡ texts_of chains = cc (spells.4) in
    let table = spells.1 in
    let here : SpellsTable entry chain.text table = subst (λ (t : List ℕ). SpellsTable entry t table) text spells.6 in
    let first : head_of (ref_of chain) ≡ head_of entry.chain = cc in
    let others : heads_of chains ≡ map (λ (e : TableEntry). head_of e.chain) entries = cc in
    let rest = tables_written entries chains spells.3 others (subst (λ (ts : List (List ℕ)). SpellsTables entries ts spells.3) more spells.7) in
    let ref = ref_is entry.chain chain (sym first) in
    let is : entry ≡ entry_for chain table = λ i. record { name = here.named i; stamp = here.stamped i; floor = here.floored i; kept = here.counted i; chain = ref i } in
    subst (λ (ts : List Table). TablesWritten (entry ∷ entries) (chain ∷ chains) ts) (sym spells.5)
    (record {
      texts = λ i. here.spelled.spelled i ∷ rest.texts i;
      short = (here.spelled.short, rest.short);
      entries_are = λ i. is i ∷ rest.entries_are i;
    })

-- what shows games is what is written of snapshots
record SnapshotsWritten (rules : WorldRules) (world : World) (entries : List SnapshotEntry) (chains : List HeldChain) : Type 0 where
  snapshots : List Snapshot
  texts : texts_of chains ≡ map bytes_of snapshots
  shown : AreShown rules world snapshots
  entries_are : entries ≡ snapshot_entries chains snapshots

snapshots_written : (rules : WorldRules) (world : World) (entries : List SnapshotEntry) (chains : List HeldChain) → heads_of chains ≡ map (λ (entry : SnapshotEntry). head_of entry.chain) entries → ShowGames rules world entries (texts_of chains)
    → SnapshotsWritten rules world entries chains
snapshots_written rules world [] [] heads shows = record { snapshots = []; texts = refl; shown = All-nil (λ s. IsShown rules world s.table s.kept s.bytes); entries_are = refl }
snapshots_written rules world [] (chain ∷ chains) heads shows = absurd (cc)
snapshots_written rules world (entry ∷ entries) [] heads shows = absurd (cc)
snapshots_written rules world (entry ∷ entries) (chain ∷ chains) heads shows =
    let text : shows.0 ≡ chain.text = cc (shows.2) in
    let more : shows.1 ≡ texts_of chains = cc (shows.2) in
    let first : head_of (ref_of chain) ≡ head_of entry.chain = cc in
    let others : heads_of chains ≡ map (λ (e : SnapshotEntry). head_of e.chain) entries = cc in
    let rest = snapshots_written rules world entries chains others (subst (λ (ts : List (List ℕ)). ShowGames rules world entries ts) more shows.4) in
    let ref = ref_is entry.chain chain (sym first) in
    let snapshot : Snapshot = record { table = entry.table; kept = entry.kept; bytes = chain.text } in
    let is : entry ≡ snapshot_entry chain snapshot = λ i. record { table = entry.table; kept = entry.kept; chain = ref i } in
    let here : IsShown rules world entry.table entry.kept chain.text = subst (λ (bytes : List ℕ). IsShown rules world entry.table entry.kept bytes) text shows.3 in
    record {
      snapshots = snapshot ∷ rest.snapshots;
      texts = λ i. chain.text ∷ rest.texts i;
      shown = All-cons (λ s. IsShown rules world s.table s.kept s.bytes) snapshot rest.snapshots here rest.shown;
      entries_are = λ i. is i ∷ rest.entries_are i;
    }

-- chains whose heads and texts are those of tables and of snapshots
record Parted (others : List HeldChain) (heads more : List (ℕ × ℕ)) (texts rest : List (List ℕ)) : Type 0 where
  chains : TableChains
  named : others ≡ all_of chains
  heads_are : heads_of chains.tables ≡ heads
  texts_are : texts_of chains.tables ≡ texts
  more_are : heads_of chains.snapshots ≡ more
  rest_are : texts_of chains.snapshots ≡ rest

parted : (others : List HeldChain) (heads more : List (ℕ × ℕ)) (texts rest : List (List ℕ)) → length texts ≡ length heads → heads_of others ≡ heads ++ more → texts_of others ≡ texts ++ rest → Parted others heads more texts rest
parted others [] more [] rest long heads_are texts_are =
    record { chains = record { tables = []; snapshots = others }; named = refl; heads_are = refl; texts_are = refl; more_are = heads_are; rest_are = texts_are }
parted others [] more (text ∷ texts) rest long heads_are texts_are = absurd (omega (arith, long))
parted others (head ∷ heads) more [] rest long heads_are texts_are = absurd (omega (arith, long))
parted [] (head ∷ heads) more (text ∷ texts) rest long heads_are texts_are = absurd (cc)
parted (chain ∷ others) (head ∷ heads) more (text ∷ texts) rest long heads_are texts_are =
    let of_heads : heads_of others ≡ heads ++ more = cc in
    let of_texts : texts_of others ≡ texts ++ rest = cc in
    let first : (laying.head_of chain.pages, length chain.text) ≡ head = cc in
    let text_is : chain.text ≡ text = cc in
    let behind = parted others heads more texts rest (omega (arith, long)) of_heads of_texts in
    record {
      chains = record { tables = chain ∷ behind.chains.tables; snapshots = behind.chains.snapshots };
      named = λ i. chain ∷ behind.named i;
      heads_are = λ i. first i ∷ behind.heads_are i;
      texts_are = λ i. text_is i ∷ behind.texts_are i;
      more_are = behind.more_are;
      rest_are = behind.rest_are;
    }

same_bytes : (version : Version) (first second : Directory) (bytes : List ℕ) → bytes ≡ spelling version first → first ≡ second → bytes ≡ spelling version second
same_bytes version first second bytes spelled same = subst (λ (d : Directory). bytes ≡ spelling version d) same spelled

pub written : (rules : WorldRules) (number : ℕ) (bytes : List ℕ) (texts : TextChains) (others : List HeldChain) (world : World) → Heads number bytes (heads_of (chains_of texts others)) → Spells rules number bytes (texts_of (chains_of texts others)) world → IsWritten rules number bytes texts others world
written rules number bytes texts others world heads spells =
    let there : dir.Spells spells.version bytes heads.directory =
    subst (λ (v : Version). dir.Spells v bytes heads.directory) (one_version heads.version spells.version (heads.numbered ∙ sym spells.numbered)) heads.spelled in
    let same = one_directory spells.version bytes heads.directory spells.directory there spells.spelled in
    let all : heads_of (chains_of texts others) ≡ named.heads_of spells.directory = heads.named ∙ ap (λ (d : Directory). named.heads_of d) same in
    let tables = spells.directory.tables in
    let of_tables = map (λ (entry : TableEntry). head_of entry.chain) tables in
    let of_snapshots = map (λ (entry : SnapshotEntry). head_of entry.chain) spells.directory.snapshots in
    let chart : head_of (ref_of texts.chart) ≡ head_of spells.directory.kit.chart = cc in
    let roster : head_of (ref_of texts.roster) ≡ head_of spells.directory.kit.roster = cc in
    let tiles : head_of (ref_of texts.tiles) ≡ head_of spells.directory.kit.tiles = cc in
    let board : head_of (ref_of texts.board) ≡ head_of spells.directory.kit.board = cc in
    let behind : heads_of others ≡ of_tables ++ of_snapshots = cc in
    let of_chart = ref_is spells.directory.kit.chart texts.chart (sym chart) in
    let of_roster = ref_is spells.directory.kit.roster texts.roster (sym roster) in
    let of_tiles = ref_is spells.directory.kit.tiles texts.tiles (sym tiles) in
    let of_board = ref_is spells.directory.kit.board texts.board (sym board) in
    let texts_are = spells.of_chains in
    let texts_of_others : texts_of others ≡ spells.of_tables ++ spells.of_snapshots = cc in
    let long : length spells.of_tables ≡ length of_tables = counted_texts tables spells.of_tables world.tables spells.tables ∙ sym (length-map tables (λ (entry : TableEntry). head_of entry.chain)) in
    let parts = parted others of_tables of_snapshots spells.of_tables spells.of_snapshots long behind texts_of_others in
    let first = tables_written tables parts.chains.tables world.tables parts.heads_are (subst (λ (ts : List (List ℕ)). SpellsTables tables ts world.tables) (sym parts.texts_are) spells.tables) in
    let then = snapshots_written rules world spells.directory.snapshots parts.chains.snapshots parts.more_are
    (subst (λ (ts : List (List ℕ)). ShowGames rules world spells.directory.snapshots ts) (sym parts.rest_are) spells.snapshots) in
    let directory : spells.directory ≡ directory_for spells.directory.bank texts parts.chains world then.snapshots =
    λ i. record { bank = spells.directory.bank; kit = record { chart = of_chart i; roster = of_roster i; tiles = of_tiles i; board = of_board i }; tables = first.entries_are i; snapshots = then.entries_are i } in
    record {
      version = spells.version;
      numbered = spells.numbered;
      bank = spells.directory.bank;
      said = spells.spelled.banked;
      banked = spells.banked;
      chains = parts.chains;
      named = parts.named;
      snapshots = then.snapshots;
      held = record { of_chart = cc; of_roster = cc; of_tiles = cc; of_board = cc; of_tables = first.texts; of_snapshots = then.texts };
      short = first.short;
      shown = then.shown;
      written = same_bytes spells.version spells.directory (directory_for spells.directory.bank texts parts.chains world then.snapshots) bytes spells.spelled.spelled directory;
    }
