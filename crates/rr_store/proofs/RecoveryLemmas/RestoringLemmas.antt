-- The tables of a directory, restored one after another.
use Rattle.std.proofs.Common.{◌≡◌, ◌≢◌, ℕ, zero, suc, ◌+◌, ◌^◌, ◌<◌, ◌≤◌, Bool, true, false, cond, List, [], ◌∷◌, ◌++◌, All, length, take, get_or, Option, None, Some, bytes_eq, refl, sym, ap, subst, ◌∙◌, length-append, arith}
use Rattle.std.proofs.lemmas.List.{get_or-take, length-take-le, take_more}
use Rattle.std.proofs.lemmas.Slice.Eq.{bytes_eq-Decides}
use Rattle.rr_code.specs.declared.command.Command.{Command}
use Rattle.rr_reading.specs.declared.dir.directory.SnapshotEntry.{SnapshotEntry}
use Rattle.rr_reading.specs.declared.dir.directory.TableEntry.{TableEntry}
use Rattle.rr_reading.specs.Dir.Directory.{AreTables, HaveOwnNames, IsTable}
use Rattle.rr_reading.proofs.DirLemmas.KeptLemmas.{one_kept}
use Rattle.rr_game.specs.declared.history.table.Table.{Table}
use Rattle.rr_game.specs.History.Playing.{ends_turn}
use Rattle.rr_game.specs.History.Tables.{IsPlayed, kept_in}
use Rattle.rr_images.specs.Holding.{HeldChain}
use Rattle.rr_kit.specs.declared.kit.Kit.{Kit}
use Rattle.rr_tables.specs.declared.tables.Tables.{Tables}
use Rattle.rr_tables.specs.Records.Played.{ArePlayedTables, IsPlayedTable}
use Rattle.rr_tables.specs.Records.Words.{SpellCommands}
use Rattle.rr_tables.specs.Records.World.{TableState, World, table_named}
use Rattle.rr_tables.specs.Tables.{ArePlayed, world_of}
use Rattle.rr_tables.specs.Writable.{IsWritable}
use Rattle.rr_turns.specs.Turns.{ended_turns}
use Rattle.rr_store.specs.Recovery.Kept.{HoldsCommands}
use Rattle.rr_store.specs.Recovery.Restoring.{IsFreeFor, Puts}
use Rattle.rr_store.specs.Recovery.Shown.{ShowPlays, Shown, ShowsPlayOf, shown_at}
use Rattle.rr_store.specs.Recovery.Told.{TellTables, TellsTable}
use Rattle.rr_store.proofs.RecoveryLemmas.TellingLemmas.{played_more, told_more}
use Rattle.rr_store.proofs.RecoveryLemmas.WordLemmas.{one_list}

-- there are as many tables as entries
told_count : (entries : List TableEntry) (chains : List HeldChain) (tables : World) → TellTables entries chains tables → length tables ≡ length entries
told_count [] [] [] told = refl
told_count [] [] (t ∷ ts) told = absurd told
told_count [] (c ∷ cs) ts told = absurd told
told_count (e ∷ es) [] ts told = absurd told
told_count (e ∷ es) (c ∷ cs) [] told = absurd told
told_count (e ∷ es) (c ∷ cs) (t ∷ ts) told = ap suc (told_count es cs ts told.1)

-- a table is the same whatever stands for none
same_default : {X : Type 0} (xs : List X) (i : ℕ) (d e : X) → i < length xs → get_or xs i d ≡ get_or xs i e
same_default [] i d e within = absurd (omega (arith, within))
same_default (x ∷ xs) zero d e within = refl
same_default (x ∷ xs) (suc i) d e within = same_default xs i d e (omega (arith, within))

-- another name than that of an entry before it
absent_step : (b : Bool) (table : TableState) (rest : Option TableState) → b ≡ false → rest ≡ None → cond b (Some table) rest ≡ None
absent_step true table rest is none = absurd cc
absent_step false table rest is none = none

not_true : (b : Bool) → (b ≡ true → ⊥) → b ≡ false
not_true true h = absurd (h refl)
not_true false h = refl

other_name : (name other : List ℕ) → other ≢ name → bytes_eq name other ≡ false
other_name name other differ = not_true (bytes_eq name other) (λ h. differ (sym ((bytes_eq-Decides name other).0 h)))

-- each of these entries has another name
abbrev OtherNames : List TableEntry → List ℕ → Type 0
OtherNames entries name = (k : ℕ) (d : TableEntry) → k < length entries → (get_or entries k d).name ≢ name

told_absent : (entries : List TableEntry) (chains : List HeldChain) (tables : World) (name : List ℕ) → OtherNames entries name → TellTables entries chains tables
    → table_named tables name ≡ None
told_absent [] [] [] name differ told = refl
told_absent [] [] (t ∷ ts) name differ told = absurd told
told_absent [] (c ∷ cs) ts name differ told = absurd told
told_absent (e ∷ es) [] ts name differ told = absurd told
told_absent (e ∷ es) (c ∷ cs) [] name differ told = absurd told
told_absent (e ∷ es) (c ∷ cs) (t ∷ ts) name differ told =
    let here : t.0 ≢ name = λ same. differ 0 e (omega arith) (told.0.named ∙ same) in
    let others : OtherNames es name = λ k d less. differ (suc k) d (omega (arith, less)) in
    absent_step (bytes_eq name t.0) t.1 (table_named ts name) (other_name name t.0 here) (told_absent es cs ts name others told.1)

-- those from before an entry have other names, and are fewer than there may be

others_before : (entries : List TableEntry) (i : ℕ) (entry : TableEntry) → HaveOwnNames entries → i < length entries → entry ≡ get_or entries i entry → OtherNames (take i entries) entry.name
others_before entries i entry own within is k d less same =
    let count = length-take-le i entries (omega (arith, within)) in
    let below : k < i = omega (arith, less, count) in
    own k i d below within
    (ap (λ (e : TableEntry). e.name) (sym (get_or-take i entries k d below)) ∙ same
    ∙ ap (λ (e : TableEntry). e.name) (is ∙ same_default entries i entry d within))

pub is_free : (entries : List TableEntry) (chains : List HeldChain) (i : ℕ) (entry : TableEntry) (tables : World) → AreTables entries → i < length entries → entry ≡ get_or entries i entry
    → TellTables (take i entries) (take i chains) tables → IsFreeFor tables entry
is_free entries chains i entry tables are within is told =
    let count = told_count (take i entries) (take i chains) tables told in
    let front = length-take-le i entries (omega (arith, within)) in
    let few = are.few in
    let here : IsTable entry = subst (λ (e : TableEntry). IsTable e) (sym is) (are.each i entry within) in
    record {
      room = omega (arith, count, front, few, within);
      own_name = told_absent (take i entries) (take i chains) tables entry.name (others_before entries i entry are.own_names within is) told;
      stamp = here.stamped;
    }

few_kept : (entries : List TableEntry) (i : ℕ) (entry : TableEntry) → AreTables entries → i < length entries → entry ≡ get_or entries i entry → entry.kept ≤ 4096
few_kept entries i entry are within is =
    let here : IsTable entry = subst (λ (e : TableEntry). IsTable e) (sym is) (are.each i entry within) in here.few_kept

-- one table more

pub told_put : (entries : List TableEntry) (chains : List HeldChain) (i : ℕ) (entry : TableEntry) (chain : HeldChain) (bytes : List ℕ) (old new : World) (state : TableState) → i < length entries → i < length chains
    → entry ≡ get_or entries i entry → chain ≡ get_or chains i chain → bytes ≡ chain.text → TellTables (take i entries) (take i chains) old
    → Puts entry old state new → TellsTable entry bytes (entry.name, state) → TellTables (take (i + 1) entries) (take (i + 1) chains) new
told_put entries chains i entry chain bytes old new state entry_in chain_in entry_is chain_is bytes_are so_far puts tells =
    let front : take (i + 1) entries ≡ take i entries ++ entry ∷ [] = take_more entries i entry entry_in ∙ ap (λ (e : TableEntry). take i entries ++ e ∷ []) (sym entry_is) in
    let links : take (i + 1) chains ≡ take i chains ++ chain ∷ [] = take_more chains i chain chain_in ∙ ap (λ (c : HeldChain). take i chains ++ c ∷ []) (sym chain_is) in
    let here = subst (λ (b : List ℕ). TellsTable entry b (entry.name, state)) bytes_are tells in
    let told = told_more (take i entries) (take i chains) old entry chain (entry.name, state) so_far here in
    subst (λ (w : World). TellTables (take (i + 1) entries) (take (i + 1) chains) w) (sym puts.last)
    (subst (λ (es : List TableEntry). TellTables es (take (i + 1) chains) (old ++ (entry.name, state) ∷ [])) (sym front)
    (subst (λ (cs : List HeldChain). TellTables (take i entries ++ entry ∷ []) cs (old ++ (entry.name, state) ∷ [])) (sym links) told))

pub count_put : (entry : TableEntry) (old new : World) (state : TableState) (i : ℕ) → Puts entry old state new → length old ≡ i → length new ≡ i + 1
count_put entry old new state i puts same = omega (arith, same, ap length puts.last, length-append old ((entry.name, state) ∷ []))

-- the snapshots show the plays of some tables, and of one more
module _ (kit : Kit) (shown_entries : List SnapshotEntry) (shown_chains : List HeldChain) where
  pub show_last : (place : ℕ) (tables : World) (table : List ℕ × TableState) → ShowPlays kit shown_entries shown_chains place (tables ++ table ∷ [])
      → ShowPlays kit shown_entries shown_chains place tables × All (ShowsPlayOf kit table.1.commands) (shown_at (place + length tables) shown_entries shown_chains)
  show_last place [] table shows =
      let at : place ≡ place + 0 = omega arith in
      (tt, subst (λ (n : ℕ). All (ShowsPlayOf kit table.1.commands) (shown_at n shown_entries shown_chains)) at shows.0)
  show_last place (t ∷ ts) table shows =
      let more = show_last (place + 1) ts table shows.1 in
      let at : place + 1 + length ts ≡ place + length (t ∷ ts) = omega arith in
      ((shows.0, more.0), subst (λ (n : ℕ). All (ShowsPlayOf kit table.1.commands) (shown_at n shown_entries shown_chains)) at more.1)

  pub played_put : (now : Kit) (i : ℕ) (entry : TableEntry) (old new : Tables) (state : TableState) → now ≡ kit → Puts entry (world_of old) state (world_of new) → length (world_of old) ≡ i
      → (ShowPlays kit shown_entries shown_chains 0 (world_of old) → ArePlayed old × ArePlayedTables kit (world_of old))
      → (All (ShowsPlayOf now state.commands) (shown_at i shown_entries shown_chains) → IsPlayedTable now state × (ArePlayed old → ArePlayed new))
      → ShowPlays kit shown_entries shown_chains 0 (world_of new) → ArePlayed new × ArePlayedTables kit (world_of new)
  played_put now i entry old new state same puts count before here shows =
      let parts = show_last 0 (world_of old) (entry.name, state) (subst (λ (w : World). ShowPlays kit shown_entries shown_chains 0 w) puts.last shows) in
      let at : 0 + length (world_of old) ≡ i = omega (arith, count) in
      let shown = subst (λ (n : ℕ). All (ShowsPlayOf kit state.commands) (shown_at n shown_entries shown_chains)) at parts.1 in
      let played_here =
      subst (λ (k : Kit). All (ShowsPlayOf k state.commands) (shown_at i shown_entries shown_chains) → IsPlayedTable k state × (ArePlayed old → ArePlayed new)) same here shown in
      let played = before parts.0 in (
        played_here.1 played.0,
        subst (λ (w : World). ArePlayedTables kit w) (sym puts.last) (played_more kit (world_of old) (entry.name, state) played.1 played_here.0),
      )

  -- the table of an entry among tables that were played, and whose play the snapshots show
  record ToldAt (place : ℕ) (entry : TableEntry) (bytes : List ℕ) : Type 0 where
    pub state : TableState
    pub tells : TellsTable entry bytes (entry.name, state)
    pub shown : All (ShowsPlayOf kit state.commands) (shown_at place shown_entries shown_chains)
    pub played : IsPlayedTable kit state

  told_there : (place : ℕ) (entries : List TableEntry) (chains : List HeldChain) (tables : World) (i : ℕ) (d : TableEntry) (c : HeldChain) → i < length entries → i < length chains
      → TellTables entries chains tables → ShowPlays kit shown_entries shown_chains place tables → ArePlayedTables kit tables → ToldAt (place + i) (get_or entries i d) (get_or chains i c).text
  told_there place [] chains tables i d c entry_in chain_in told shows played = absurd (omega (arith, entry_in))
  told_there place (e ∷ es) [] tables i d c entry_in chain_in told shows played = absurd (omega (arith, chain_in))
  told_there place (e ∷ es) (h ∷ hs) [] i d c entry_in chain_in told shows played = absurd told
  told_there place (e ∷ es) (h ∷ hs) (t ∷ ts) zero d c entry_in chain_in told shows played =
      let at : place ≡ place + 0 = omega arith in
      record {
        state = t.1;
        tells = record { named = refl; stamped = told.0.stamped; floored = told.0.floored; kept = told.0.kept };
        shown = subst (λ (n : ℕ). All (ShowsPlayOf kit t.1.commands) (shown_at n shown_entries shown_chains)) at shows.0;
        played = played.0;
      }
  told_there place (e ∷ es) (h ∷ hs) (t ∷ ts) (suc i) d c entry_in chain_in told shows played =
      let at : place + 1 + i ≡ place + suc i = omega arith in
      subst (λ (n : ℕ). ToldAt n (get_or es i d) (get_or hs i c).text) at
      (told_there (place + 1) es hs ts i d c (omega (arith, entry_in)) (omega (arith, chain_in)) told.1 shows.1 played.1)

  -- the next table wasn't played
  pub told_end : (now : Kit) (entries : List TableEntry) (chains : List HeldChain) (i : ℕ) (entry : TableEntry) (chain : HeldChain) (bytes : List ℕ) (old : World) → i < length entries → i < length chains
      → entry ≡ get_or entries i entry → chain ≡ get_or chains i chain → bytes ≡ chain.text → now ≡ kit → TellTables (take i entries) (take i chains) old
      → (IsFreeFor old entry → entry.kept ≤ 4096 → (state : TableState) → TellsTable entry bytes (entry.name, state)
      → All (ShowsPlayOf now state.commands) (shown_at i shown_entries shown_chains) → IsPlayedTable now state → ⊥)
      → AreTables entries → (tables : World) → TellTables entries chains tables → ShowPlays kit shown_entries shown_chains 0 tables → ArePlayedTables kit tables → ⊥
  told_end now entries chains i entry chain bytes old entry_in chain_in entry_is chain_is bytes_are same so_far refused are tables told shows played =
      let there = told_there 0 entries chains tables i entry chain entry_in chain_in told shows played in
      let at : 0 + i ≡ i = omega arith in
      let of_entry = subst (λ (e : TableEntry). ToldAt (0 + i) e (get_or chains i chain).text) (sym entry_is) there in
      let of_chain = subst (λ (c : HeldChain). ToldAt (0 + i) entry c.text) (sym chain_is) of_entry in
      let here = subst (λ (n : ℕ). ToldAt n entry chain.text) at of_chain in
      refused (is_free entries chains i entry old are entry_in entry_is so_far) (few_kept entries i entry are entry_in entry_is) here.state
      (subst (λ (b : List ℕ). TellsTable entry b (entry.name, here.state)) (sym bytes_are) here.tells)
      (subst (λ (k : Kit). All (ShowsPlayOf k here.state.commands) (shown_at i shown_entries shown_chains)) (sym same) here.shown)
      (subst (λ (k : Kit). IsPlayedTable k here.state) (sym same) here.played)

-- the bytes hold one list of commands
one_commands : (bytes : List ℕ) (count : ℕ) (first second : List Command) → HoldsCommands bytes count first → HoldsCommands bytes count second → first ≡ second
one_commands bytes count first second one two =
    let words = one_kept bytes one.words two.words one.kept two.kept in
    one_list two.words first second (subst (λ (ws : List (List ℕ)). SpellCommands ws first) words one.spelled) two.spelled

-- an entry and its chain tell one table
pub one_told : (entry : TableEntry) (bytes : List ℕ) (first second : TableState) → TellsTable entry bytes (entry.name, first) → TellsTable entry bytes (entry.name, second) → first ≡ second
one_told entry bytes first second one two =
    let commands = one_commands bytes entry.kept first.commands second.commands one.kept two.kept in
    let floor : first.floor ≡ second.floor = sym one.floored ∙ two.floored in
    let stamp : first.stamp ≡ second.stamp = sym one.stamped ∙ two.stamped in
    λ i. record { commands = commands i; floor = floor i; stamp = stamp i }

-- a floor above the turns that ended in what a table keeps
pub above_turns : (kit : Kit) (shown : List Shown) (entry : TableEntry) (bytes : List ℕ) (table : Table) (floor turns : ℕ) → HoldsCommands bytes entry.kept (kept_in table).commands
    → (All (ShowsPlayOf kit (kept_in table).commands) shown → IsPlayed kit table) → floor ≡ entry.floor → (IsPlayed kit table → turns ≡ ended_turns (ends_turn kit) (kept_in table).commands) → turns < floor
    → (state : TableState) → TellsTable entry bytes (entry.name, state) → All (ShowsPlayOf kit state.commands) shown → IsPlayedTable kit state → ⊥
above_turns kit shown entry bytes table floor turns holds was_played floor_is ended above state tells shows played =
    let same = one_commands bytes entry.kept state.commands (kept_in table).commands tells.kept holds in
    let counted = ended (was_played (subst (λ (cs : List Command). All (ShowsPlayOf kit cs) shown) same shows)) in
    let floored = subst (λ (cs : List Command). state.floor ≤ ended_turns (ends_turn kit) cs) same played.floored in
    omega (arith, floored, counted, above, floor_is, tells.floored)

-- a table that goes on with a floor which isn't above them
pub resumed : (kit : Kit) (shown : List Shown) (old new : Table) (floor turns : ℕ) → (All (ShowsPlayOf kit (kept_in old).commands) shown → IsPlayed kit old) → (IsPlayed kit old → IsPlayed kit new)
    → (kept_in new).commands ≡ (kept_in old).commands → (kept_in new).floor ≡ floor → (IsPlayed kit old → turns ≡ ended_turns (ends_turn kit) (kept_in old).commands) → floor ≤ turns
    → All (ShowsPlayOf kit (kept_in new).commands) shown → IsPlayed kit new × IsPlayedTable kit (kept_in new)
resumed kit shown old new floor turns was_played goes_on commands floored ended below shows =
    let old_played = was_played (subst (λ (cs : List Command). All (ShowsPlayOf kit cs) shown) commands shows) in
    let new_played = goes_on old_played in
    let counted = ended old_played in
    let here : (kept_in new).floor ≤ ended_turns (ends_turn kit) (kept_in old).commands = omega (arith, counted, below, floored) in (
      new_played,
      record { lawful = new_played.lawful; floored = subst (λ (cs : List Command). (kept_in new).floor ≤ ended_turns (ends_turn kit) cs) (sym commands) here },
    )

-- what a checkpoint can write of a table that was restored

pub is_writable : (floor : ℕ) (new : TableState) → new.floor ≡ floor → floor < 2 ^ 32 → IsWritable new
is_writable floor new floored below =
    record { floored = subst (λ (n : ℕ). n < 2 ^ 32) (sym floored) below }
