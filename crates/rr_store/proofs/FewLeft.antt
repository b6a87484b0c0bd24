-- Few commands are left behind the last snapshots of a root that a checkpoint writes.
use Rattle.std.proofs.Common.{◌≡◌, ◌⊎◌, ℕ, ◌+◌, ◌<◌, ◌≤◌, ◌==◌, Bool, true, false, All, List, [], ◌∷◌, ◌++◌, length, map, if◌then◌else◌, inl, inr, refl, ap, ◌∙◌, arith, append-nil}
use Rattle.std.specs.Cmp.Lexicographic.{nat_list_eq_equiv}
use Rattle.std.specs.Global.{Box}
use Rattle.std.specs.Map.{values_of}
use Rattle.std.proofs.lemmas.Bool.Decides.{nat_tests}
use Rattle.std.proofs.lemmas.List.Elements.{All-head, All-tail}
use Rattle.std.proofs.lemmas.Map.Views.{All-values_from_lookup}
use Rattle.rr_game.specs.declared.game.Game.{Game}
use Rattle.rr_game.specs.declared.history.table.Table.{Table}
use Rattle.rr_game.specs.History.GameBytes.{bytes_of}
use Rattle.rr_game.specs.History.Snapshots.{least_named, named_counts}
use Rattle.rr_game.specs.History.Tables.{HasItsSnapshots, IsPlayed, kept_in}
use Rattle.rr_images.specs.Holding.{HeldChain}
use Rattle.rr_kit.specs.declared.kit.Kit.{Kit}
use Rattle.rr_reading.specs.declared.dir.directory.TheConstants.{MOST_SNAPSHOT_BYTES}
use Rattle.rr_reading.specs.Worlds.Spelling.{snapshot_entries}
use Rattle.rr_reading.specs.Worlds.World.{Snapshot}
use Rattle.rr_tables.specs.Tables.{kept_in_box, lent_games, lent_snapshots, snapshot_at, world_by}
use Rattle.rr_tables.proofs.WholeLending.{tables_lend_all}
use Rattle.rr_turns.specs.Ends.{kept_at}
use Rattle.rr_store.specs.Laws.{BareTablesArePlayedOnce, FewAreLeft, LentRootsAreNamed}
use Rattle.rr_store.specs.Replayed.{AreItsCounts, AreTheirCounts, counts_at, counts_played}
use Rattle.rr_store.proofs.RecoveryLemmas.PlaysLemmas.{bare_played, few_played}

pub few_are_left : FewAreLeft
few_are_left kit table counts plays are played = few_played kit table counts plays are played

pub bare_are_played_once : BareTablesArePlayedOnce
bare_are_played_once kit table plays played = bare_played kit table plays played

-- ---- of how many commands snapshots of a table are

abbrev counts_in : List Snapshot → ℕ → List ℕ
counts_in [] place = []
counts_in (s ∷ ss) place = if s.table == place then s.kept ∷ counts_in ss place else counts_in ss place

pick : (b : Bool) (n : ℕ) (some all : List ℕ) → some ≡ all → (if b then n ∷ some else some) ≡ (if b then n ∷ all else all)
pick true n some all same = ap (λ (l : List ℕ). n ∷ l) same
pick false n some all same = same

of_entries : (chains : List HeldChain) (snapshots : List Snapshot) (place : ℕ) → length chains ≡ length snapshots → counts_at (snapshot_entries chains snapshots) place ≡ counts_in snapshots place
of_entries [] [] place same = refl
of_entries [] (s ∷ ss) place same = absurd (omega (arith, same))
of_entries (c ∷ cs) [] place same = absurd (omega (arith, same))
of_entries (c ∷ cs) (s ∷ ss) place same = pick (s.table == place) s.kept _ _ (of_entries cs ss place (omega (arith, same)))

pick_join : (b : Bool) (n : ℕ) (some one all : List ℕ) → all ≡ some ++ one → (if b then n ∷ all else all) ≡ (if b then n ∷ some else some) ++ one
pick_join true n some one all same = ap (λ (l : List ℕ). n ∷ l) same
pick_join false n some one all same = same

in_both : (first second : List Snapshot) (place : ℕ) → counts_in (first ++ second) place ≡ counts_in first place ++ counts_in second place
in_both [] second place = refl
in_both (s ∷ ss) second place = pick_join (s.table == place) s.kept _ _ _ (in_both ss second place)

own : (place : ℕ) (games : List Game) → counts_in (map (snapshot_at place) games) place ≡ counts_played games
own place [] = refl
own place (g ∷ gs) =
    let here : (place == place) ≡ true = grind (arith, nat_tests) in
    ap (λ (b : Bool). if b then g.played ∷ counts_in (map (snapshot_at place) gs) place else counts_in (map (snapshot_at place) gs) place) here
    ∙ ap (λ (l : List ℕ). g.played ∷ l) (own place gs)

other : (place asked : ℕ) (games : List Game) → place < asked ⊎ asked < place → counts_in (map (snapshot_at place) games) asked ≡ []
other place asked [] differ = refl
other place asked (g ∷ gs) differ =
    ap (λ (b : Bool). if b then g.played ∷ counts_in (map (snapshot_at place) gs) asked else counts_in (map (snapshot_at place) gs) asked) (differs differ)
    ∙ other place asked gs differ
  where
    differs : place < asked ⊎ asked < place → (place == asked) ≡ false
    differs (inl less) = grind (arith, nat_tests, less)
    differs (inr less) = grind (arith, nat_tests, less)

below : (place asked : ℕ) (entries : List (List ℕ × Box Table)) → asked < place → counts_in (lent_snapshots place (map (λ e. e.1.value) entries)) asked ≡ []
below place asked [] less = refl
below place asked (e ∷ es) less =
    in_both (map (snapshot_at place) (lent_games e.1.value)) (lent_snapshots (place + 1) (map (λ e. e.1.value) es)) asked
    ∙ (λ i. other place asked (lent_games e.1.value) (inr less) i ++ below (place + 1) asked es (omega (arith, less)) i)

-- ---- what is lent

-- a table that was played and has its snapshots, none of which is too long
record Lends (kit : Kit) (table : Table) : Type 0 where
  pub played : IsPlayed kit table
  pub named : HasItsSnapshots table
  pub short : All (λ (game : Game). length (bytes_of game) ≤ MOST_SNAPSHOT_BYTES) table.kept.snapshots

lends_named : (kit : Kit) (table : Table) → Lends kit table → AreItsCounts kit (kept_in table) (counts_played (lent_games table))
lends_named kit table is =
    ap counts_played (tables_lend_all table is.named table.few is.short)
    ∙ is.named.counts
    ∙ ap (λ (ends : List ℕ). named_counts (least_named (kept_at ends table.floor)) (length table.kept.commands)) is.played.played.ends

all_named : (kit : Kit) (counts : ℕ → List ℕ) (place : ℕ) (entries : List (List ℕ × Box Table)) → All (λ (table : Box Table). Lends kit table.value) (values_of entries)
    → ((asked : ℕ) → place ≤ asked → counts asked ≡ counts_in (lent_snapshots place (map (λ e. e.1.value) entries)) asked) → AreTheirCounts kit counts place (world_by kept_in_box entries)
all_named kit counts place [] all same = tt
all_named kit counts place (e ∷ es) all same =
    let table = e.1.value in
    let Is : Box Table → Type 0 = λ box. Lends kit box.value in
    let here = lends_named kit table (All-head Is e.1 (values_of es) all) in
    let rest = lent_snapshots (place + 1) (map (λ e. e.1.value) es) in
    let own_counts : counts place ≡ counts_played (lent_games table) =
    same place (omega arith) ∙ in_both (map (snapshot_at place) (lent_games table)) rest place
    ∙ (λ i. own place (lent_games table) i ++ below (place + 1) place es (omega arith) i) ∙ append-nil (counts_played (lent_games table)) in (
      own_counts ∙ here,
      all_named kit counts (place + 1) es (All-tail Is e.1 (values_of es) all) (λ asked above.
          same asked (omega (arith, above)) ∙ in_both (map (snapshot_at place) (lent_games table)) rest asked
          ∙ ap (λ (l : List ℕ). l ++ counts_in rest asked) (other place asked (lent_games table) (inl (omega (arith, above))))),
    )

pub lent_roots_are_named : LentRootsAreNamed
lent_roots_are_named tables chains played named short as_many =
    let entries = tables.map.entries in
    let Is : Box Table → Type 0 = λ box. Lends tables.kit box.value in
    let snapshots = lent_snapshots 0 (map (λ e. e.1.value) entries) in
    all_named tables.kit (counts_at (snapshot_entries chains snapshots)) 0 entries
    (λ k d within. record {
      played = All-values_from_lookup nat_list_eq_equiv (λ (t : Box Table). IsPlayed tables.kit t.value) entries tables.own_names played k d within;
      named = All-values_from_lookup nat_list_eq_equiv (λ (t : Box Table). HasItsSnapshots t.value) entries tables.own_names named k d within;
      short = short k d within;
    })
    (λ asked above. of_entries chains snapshots asked as_many)
