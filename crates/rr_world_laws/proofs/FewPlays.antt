-- Each opening of a file plays few commands, whatever stops there were in its history.
use Rattle.std.proofs.Common.{◌≡◌, ℕ, ◌≤◌, refl, All, false, List, [], ◌∷◌, ◌++◌, length, Some, inl, inr, Result, Ok, Err, IfOk, sym, ap, subst, arith}
use Rattle.std.specs.Cmp.Lexicographic.{nat_list_eq_equiv}
use Rattle.std.specs.Global.{Box}
use Rattle.std.proofs.lemmas.List.Elements.{All-weaker}
use Rattle.std.proofs.lemmas.Map.Views.{All-values_from_lookup}
use Rattle.std.specs.Map.{values_of}
use Rattle.rr_disk.specs.Disk.{DiskState, IsImage}
use Rattle.rr_disk.specs.Moments.{EachImageOf, LeavesOnly}
use Rattle.rr_disk.proofs.ImageLemmas.{each_synced}
use Rattle.rr_game.specs.declared.game.Game.{Game}
use Rattle.rr_game.specs.declared.history.table.Table.{Table}
use Rattle.rr_game.specs.History.GameBytes.{bytes_of}
use Rattle.rr_game.specs.History.Snapshots.{IsShown}
use Rattle.rr_game.specs.History.Tables.{IsPlayed}
use Rattle.rr_images.specs.Schedules.Schedule.{IsImageOfOne}
use Rattle.rr_kit.specs.declared.kit.Kit.{Kit}
use Rattle.rr_kit.specs.Kits.{KitTexts}
use Rattle.rr_kit.proofs.OneKit.{one_kit}
use Rattle.rr_laws.specs.Sizes.{GamesAreShort}
use Rattle.rr_log.proofs.FormattingLemmas.Moments.{new_keeps}
use Rattle.rr_reading.specs.declared.dir.directory.TheConstants.{MOST_SNAPSHOT_BYTES}
use Rattle.rr_tables.specs.Records.Headline.{KeepsTables, KeepsTablesOr}
use Rattle.rr_tables.specs.Records.Taking.{table_files}
use Rattle.rr_tables.specs.Records.Words.{in_words}
use Rattle.rr_tables.specs.Records.World.{TableRequest, World, for_table, world_after}
use Rattle.rr_tables.proofs.RecordLemmas.PlayedLemmas.{played_after}
use Rattle.rr_tables.proofs.RecordLemmas.WorldLemmas.{keep_after}
use Rattle.rr_reading.specs.Dir.Version.{version_number}
use Rattle.rr_store.specs.declared.fault.Fault.{Fault}
use Rattle.rr_store.specs.declared.opening.Refused as opening
use Rattle.rr_store.specs.declared.store.Store.{Store}
use Rattle.rr_store.specs.Events.{Opens, Passes, disk_behind}
use Rattle.rr_store.specs.Files.{StandsFor}
use Rattle.rr_store.specs.Holding.{Carries, GamesHaveSnapshots, disk_of, file_of, held_of, replayed_of}
use Rattle.rr_store.specs.Named.{LendsNamed, NamesRoots, NamesSnapshots, NewFilesNameSnapshots, OpeningsPlayFew, PlaysFew, SnapshotsAreShort}
use Rattle.rr_store.specs.Replayed.{ReplaysFile}
use Rattle.rr_store.specs.Opening.{SyncsAtMost}
use Rattle.rr_store.specs.Ticking.{Steps}
use Rattle.rr_store.proofs.Events.{each_moment, same_moments}
use Rattle.rr_store.proofs.NamedRoots.{named_roots_play_few}
use Rattle.rr_store.proofs.Openings.{syncs_at_most}
use Rattle.rr_store.proofs.Standing.{carried_now}
use Rattle.rr_store.proofs.Worlds.{kept_stand}
use Rattle.rr_world_laws.specs.FewPlays.{And_then, Behind, By_checkpoint, By_commit, By_tick, Call, HistoriesBegin, HistoriesEnd, HistoriesGoOn, HistoriesNameSnapshots, HistoriesPlayFew, HistoriesStay, History, KeepsNamed, KitsHaveShortSnapshots, New, No_call, OpensNamed, Returned, Within, content_of}
use Rattle.rr_world_laws.specs.Programs.{ContentsMayStay, Programs}

-- ---- games are short

module _ (games : GamesAreShort) where
  abbrev IsShort : Game → Type 0
  IsShort game = length (bytes_of game) ≤ MOST_SNAPSHOT_BYTES

  shown_is_short : (kit : Kit) (table : Table) (game : Game) → IsShown kit table.kept.commands game → IsShort game
  shown_is_short kit table game shown = let short = games game shown.spelled.fits in omega (arith, short)

  abbrev HasShort : Box Table → Type 0
  HasShort table = All IsShort table.value.kept.snapshots

  played_has_short : (kit : Kit) (table : Box Table) → IsPlayed kit table.value → HasShort table
  played_has_short kit table played =
      All-weaker (IsShown kit table.value.kept.commands) IsShort (shown_is_short kit table.value) table.value.kept.snapshots played.snapshots

  pub snapshots_are_short : KitsHaveShortSnapshots
  snapshots_are_short kit tables same played =
      let entries = tables.map.entries in
      let Is : Box Table → Type 0 = λ table. IsPlayed tables.kit table.value in
      let each : All Is (values_of entries) = All-values_from_lookup nat_list_eq_equiv Is entries tables.own_names played in
      All-weaker Is HasShort (played_has_short tables.kit) (values_of entries) each

-- ---- openings

-- what an opening's clauses say of a store, said of it at once
module _ {D : Type 0} (Honest : D → Type 0) (state : D → DiskState) (disk : D) where
  pub opens_named : (result : Result (Store D) (opening.Refused D))
      → IfOk result (λ store. Honest (disk_of store) → (texts : KitTexts) (tables : World) → StandsFor (state disk).content texts tables → GamesHaveSnapshots store)
      → IfOk result (λ store. Honest (disk_of store) → (texts : KitTexts) → KeepsTables texts (held_of store).tables (state disk).content
      → SnapshotsAreShort (held_of store).kit → NamesSnapshots (held_of store).kit (state disk).content → NamesRoots state store texts)
      → IfOk result (λ store. Honest (disk_of store) → (texts : KitTexts) (tables : World) → StandsFor (state disk).content texts tables
      → ReplaysFile (state disk).content (held_of store).kit (replayed_of store))
      → IfOk result (λ store. OpensNamed Honest state disk store)
  opens_named (Ok store) snapshots names replayed = record { snapshots = snapshots; names = names; replayed = replayed }
  opens_named (Err refused) snapshots names replayed = tt

-- ---- calls

-- a disk that is honest behind a call was so before it
honest_of : {D : Type 0} (Honest Works : D → Type 0) (state : D → DiskState) (past : D → List DiskState) (faults writes syncs : D → ℕ) (old new : Store D)
    → Call Honest Works state past faults writes syncs old new → Honest (disk_of new) → Honest (disk_of old)
honest_of Honest Works state past faults writes syncs old new (By_commit before behind name stamp request result commits) honest = commits.honest honest
honest_of Honest Works state past faults writes syncs old new (By_tick before behind result steps) honest = steps.honest honest
honest_of Honest Works state past faults writes syncs old new (By_checkpoint before behind result steps) honest = steps.honest honest

-- where no moment passed the state is as it was
none_passed : (past_old past_new : List DiskState) (old new : DiskState) → new ∷ past_new ≡ old ∷ past_old → new ≡ old
none_passed past_old past_new old new passes = cc

-- what is so of each moment of a call is so of what a stop leaves at one of them
at_moment : (moments : List DiskState) (P : List ℕ → Type 0) (image : List ℕ) → EachImageOf moments P → IsImageOfOne moments image → P image
at_moment [] P image each none = absurd none
at_moment (now ∷ moments) P image each (inl is) = each.0 image is
at_moment (now ∷ moments) P image each (inr rest) = at_moment moments P image each.1 rest

within : (past_old past_new : List DiskState) (old new : DiskState) (P : List ℕ → Type 0) → LeavesOnly past_old old past_new new P → (moments : List DiskState)
    → new ∷ past_new ≡ moments ++ old ∷ past_old → (image : List ℕ) → IsImageOfOne moments image → P image
within past_old past_new old new P leaves moments passes image of = at_moment moments P image (each_moment past_old past_new old new P leaves moments passes) of

-- a sync leaves what a read gave
synced : (old : DiskState) (moments : List DiskState) (P : List ℕ → Type 0) → P old.content → SyncsAtMost old moments → EachImageOf moments P
synced old moments P here (inl none) = subst (λ (ms : List DiskState). EachImageOf ms P) (sym none) tt
synced old moments P here (inr once) = subst (λ (ms : List DiskState). EachImageOf ms P) (sym once) (each_synced old P here, tt)

module _ {D : Type 0} (Honest Works : D → Type 0) (state : D → DiskState) (past : D → List DiskState) (faults writes syncs : D → ℕ)
    (short : KitsHaveShortSnapshots) (texts : KitTexts) where
  abbrev Calls : Store D → Store D → Type 0
  Calls = Returned Honest Works state past faults writes syncs

  -- what a store has between two calls
  record IsNamed (store : Store D) : Type 0 where
    pub carries : Carries state store texts
    pub snapshots : GamesHaveSnapshots store
    pub roots : NamesRoots state store texts

  abbrev Makes : Store D → Store D → Type 0
  Makes = Call Honest Works state past faults writes syncs

  honest_by : (old new : Store D) → Makes old new → Honest (disk_of new) → Honest (disk_of old)
  honest_by = honest_of Honest Works state past faults writes syncs

  honest_before : (old new : Store D) → Calls old new → Honest (disk_of new) → Honest (disk_of old)
  honest_before old new (No_call store) honest = honest
  honest_before old new (And_then before between last call whole rest) honest = honest_by before between call (honest_before between last rest honest)

  lent : (store : Store D) → IsNamed store → LendsNamed store
  lent store is = record { snapshots = is.snapshots; short = short (held_of store).kit store.tables refl is.carries.played }

  step_keeps : {T : Type 0} (old new : Store D) (result : Result T Fault) → Steps Honest Works state past faults old result new → Honest (disk_of new)
      → (held_of new).broken ≡ false → IsNamed old → IsNamed new
  step_keeps old new result steps honest whole is =
      record {
        carries = steps.carries honest whole texts is.carries;
        snapshots = steps.snapshots is.snapshots;
        roots = (steps.names honest whole texts is.carries (λ due. lent old is)).roots is.roots;
      }

  call_keeps : (old new : Store D) → Makes old new → Honest (disk_of new) → (held_of new).broken ≡ false → IsNamed old → IsNamed new
  call_keeps old new (By_commit before behind name stamp request result commits) honest whole is =
      record {
        carries = commits.carries honest whole texts is.carries;
        snapshots = commits.snapshots is.carries.played is.snapshots;
        roots = (commits.names honest whole texts is.carries (λ due. lent before is)).roots is.roots;
      }
  call_keeps old new (By_tick before behind result steps) honest whole is = step_keeps before behind result steps honest whole is
  call_keeps old new (By_checkpoint before behind result steps) honest whole is = step_keeps before behind result steps honest whole is

  calls_keep : (old new : Store D) → Calls old new → Honest (disk_of new) → IsNamed old → IsNamed new
  calls_keep old new (No_call store) honest is = is
  calls_keep old new (And_then before between last call whole rest) honest is =
      calls_keep between last rest honest (call_keeps before between call (honest_before between last rest honest) whole is)

  -- an opening of such a file
  module _ (disk : D) (store : Store D) (file : KeepsNamed texts (state disk).content) (opens : Opens Honest state past disk (Ok store))
      (named : OpensNamed Honest state disk store) (honest : Honest (disk_of store)) where
    stands : StandsFor (state disk).content texts file.tables
    stands = kept_stand texts file.kit file.tables file.right file.tables_of_kit (state disk).content file.keeps

    keeps : KeepsTables texts (held_of store).tables (state disk).content
    keeps =
        let told = opens.opened honest in
        let found = told.1.allowed.2 texts file.tables stands in
        let same : (held_of store).tables ≡ file.tables = ap (λ (read : KitTexts × World). read.1) found.same in
        subst (λ (tables : World). KeepsTables texts tables (state disk).content) (sym same) file.keeps

    carries : Carries state store texts
    carries = opens.carries honest texts keeps

    -- its root names snapshots by the store's kit, which is that of the file's texts
    names : NamesSnapshots (held_of store).kit (state disk).content
    names =
        subst (λ (kit : Kit). NamesSnapshots kit (state disk).content) (one_kit texts file.kit (held_of store).kit file.right carries.right) file.names

    opened : IsNamed store
    opened =
        record {
          carries = carries;
          snapshots = named.snapshots honest texts file.tables stands;
          roots = named.names honest texts keeps (short (held_of store).kit) names;
        }

  -- what a stop leaves of such a store is such a file
  left : (store : Store D) → IsNamed store → (image : List ℕ) → IsImage (state (disk_of store)) image → KeepsNamed texts image
  left store is image of =
      record {
        kit = (held_of store).kit;
        right = is.carries.right;
        tables = (held_of store).tables;
        tables_of_kit = is.carries.tables_of_kit;
        keeps = carried_now (file_of store) (state (disk_of store)) texts (held_of store).tables is.carries.file image of;
        names = (named_roots_play_few state texts store is.roots image of).0;
      }

  -- and what it leaves within a call that has a request, or a step
  left_with : (store : Store D) → IsNamed store → (asked : TableRequest) (image : List ℕ)
      → KeepsTablesOr texts (held_of store).kit (held_of store).tables (Some asked) image → NamesSnapshots (held_of store).kit image → KeepsNamed texts image
  left_with store is asked image (inl keeps) names =
      record { kit = (held_of store).kit; right = is.carries.right; tables = (held_of store).tables; tables_of_kit = is.carries.tables_of_kit; keeps = keeps; names = names }
  left_with store is asked image (inr (lawful, keeps)) names =
      let kit = (held_of store).kit in
      let tables = (held_of store).tables in
      let of_kit = is.carries.tables_of_kit in
      record {
        kit = kit;
        right = is.carries.right;
        tables = world_after kit tables asked.name asked.request;
        tables_of_kit = record {
          spelled = keep_after kit tables asked.name asked.request lawful.0.1 of_kit.spelled;
          played = played_after kit tables asked.name asked.request lawful.1 of_kit.played;
        };
        keeps = keeps;
        names = names;
      }

  left_by_step : {T : Type 0} (old new : Store D) (result : Result T Fault) (moments : List DiskState) → Steps Honest Works state past faults old result new → Honest (disk_of new) → IsNamed old
      → Passes state past (disk_of old) (disk_of new) moments → (image : List ℕ) → IsImageOfOne moments image → KeepsNamed texts image
  left_by_step old new result moments steps honest is passes image of =
      let kit = (held_of old).kit in
      let tables = (held_of old).tables in
      record {
        kit = kit;
        right = is.carries.right;
        tables = tables;
        tables_of_kit = is.carries.tables_of_kit;
        keeps = within (past (disk_of old)) (past (disk_of new)) (state (disk_of old)) (state (disk_of new)) (KeepsTables texts tables) (steps.keeps honest texts is.carries) moments passes image of;
        names = within (past (disk_of old)) (past (disk_of new)) (state (disk_of old)) (state (disk_of new)) (NamesSnapshots kit)
            (steps.names_stops honest texts is.carries (λ due. lent old is) is.roots) moments passes image of;
      }

  left_within : (old new : Store D) → Makes old new → Honest (disk_of new) → IsNamed old → (moments : List DiskState)
      → Passes state past (disk_of old) (disk_of new) moments → (image : List ℕ) → IsImageOfOne moments image → KeepsNamed texts image
  left_within old new (By_commit before behind name stamp request result commits) honest is moments passes image of =
      let kit = (held_of before).kit in
      let asked = for_table name request in
      let Or : List ℕ → Type 0 = KeepsTablesOr texts kit (held_of before).tables (Some asked) in
      left_with before is asked image
      (within (past (disk_of before)) (past (disk_of behind)) (state (disk_of before)) (state (disk_of behind)) Or (commits.keeps honest texts is.carries) moments passes image of)
      (within (past (disk_of before)) (past (disk_of behind)) (state (disk_of before)) (state (disk_of behind)) (NamesSnapshots kit)
      (commits.names_stops honest texts is.carries (λ due. lent before is) is.roots) moments passes image of)
  left_within old new (By_tick before behind result steps) honest is moments passes image of = left_by_step before behind result moments steps honest is passes image of
  left_within old new (By_checkpoint before behind result steps) honest is moments passes image of = left_by_step before behind result moments steps honest is passes image of

  -- what a stop leaves of a program that opened such a file
  module _ (disk : D) (first last : Store D) (file : KeepsNamed texts (state disk).content) (opens : Opens Honest state past disk (Ok first))
      (named : OpensNamed Honest state disk first) (calls : Calls first last) where
    pub left_between : Honest (disk_of last) → (image : List ℕ) → IsImage (state (disk_of last)) image → KeepsNamed texts image
    left_between honest image of = left last (calls_keep first last calls honest (opened disk first file opens named (honest_before first last calls honest))) image of

    pub left_in : (new : Store D) → Makes last new → Honest (disk_of new) → (moments : List DiskState) → Passes state past (disk_of last) (disk_of new) moments
        → (image : List ℕ) → IsImageOfOne moments image → KeepsNamed texts image
    left_in new call honest moments passes image of =
        let here = honest_by last new call honest in
        left_within last new call honest (calls_keep first last calls here (opened disk first file opens named (honest_before first last calls here))) moments passes image of

  pub plays_few : OpeningsPlayFew → (disk : D) (store : Store D) → KeepsNamed texts (state disk).content → Opens Honest state past disk (Ok store)
      → OpensNamed Honest state disk store → Honest (disk_of store) → PlaysFew (state disk).content (held_of store).kit (replayed_of store)
  plays_few openings disk store file opens named honest =
      openings (state disk).content (held_of store).kit (replayed_of store) (names disk store file opens named honest)
      (named.replayed honest texts file.tables (stands disk store file opens named honest))

-- ---- histories

module _ (programs : Programs) where
  abbrev Has : KitTexts → List ℕ → Type 0
  Has texts = History programs texts

  pub histories_begin : HistoriesBegin programs
  histories_begin version texts old new formats image is = New image formats.0.0 formats.0.1 (version, formats.1 image is)

  pub histories_go_on : ContentsMayStay programs → HistoriesGoOn programs
  histories_go_on may_stay texts p disk last history ran honest =
      Behind p disk last (content_of programs p (disk_of last)) history ran honest (may_stay p (disk_of last) honest)

  pub histories_end : ContentsMayStay programs → HistoriesEnd programs
  histories_end may_stay texts p disk last new [] history ran calls =
      let ghosts = programs.ghosts p in
      let same = none_passed (ghosts.past (disk_of last)) (ghosts.past (disk_of new)) (ghosts.state (disk_of last)) (ghosts.state (disk_of new)) calls.passes in
      let before = honest_of ghosts.Honest ghosts.Works ghosts.state ghosts.past ghosts.fault_count ghosts.write_count ghosts.sync_count last new calls.call calls.honest in
      subst (λ (s : DiskState). Has texts s.content) (sym same) (histories_go_on may_stay texts p disk last history ran before)
  histories_end may_stay texts p disk last new (now ∷ moments) history ran calls =
      let ghosts = programs.ghosts p in
      let passes : ghosts.state (disk_of new) ∷ ghosts.past (disk_of new) ≡ (now ∷ moments) ++ ghosts.state (disk_of last) ∷ ghosts.past (disk_of last) = calls.passes in
      let same : ghosts.state (disk_of new) ≡ now = cc passes in
      Within p disk last new (now ∷ moments) (content_of programs p (disk_of new)) history ran calls
      (inl (subst (λ (s : DiskState). IsImage s (content_of programs p (disk_of new))) same (may_stay p (disk_of new) calls.honest)))

  pub histories_stay : HistoriesStay programs
  histories_stay texts p disk (Ok store) moments image history opens honest passes of =
      let ghosts = programs.ghosts p in
      let told = (opens.opened honest).1 in
      let same = same_moments told.moments moments (ghosts.past disk) (ghosts.past (disk_of store)) (ghosts.state disk) (ghosts.state (disk_of store)) told.passed passes in
      at_moment moments (Has texts) image
      (subst (λ (ms : List DiskState). EachImageOf ms (Has texts)) same (synced (ghosts.state disk) told.moments (Has texts) history (inr told.allowed.0))) of
  histories_stay texts p disk (Err refused) moments image history opens honest passes of =
      let ghosts = programs.ghosts p in
      let told = opens.left honest in
      let same = same_moments told.moments moments (ghosts.past disk) (ghosts.past refused.disk) (ghosts.state disk) (ghosts.state refused.disk) told.passed passes in
      at_moment moments (Has texts) image
      (subst (λ (ms : List DiskState). EachImageOf ms (Has texts)) same
      (synced (ghosts.state disk) told.moments (Has texts) history (syncs_at_most refused.fault (ghosts.state disk) told.moments told.allowed.0))) of

  module _ (short : KitsHaveShortSnapshots) (new_files : NewFilesNameSnapshots) (openings : OpeningsPlayFew) where
    pub histories_name : HistoriesNameSnapshots programs
    histories_name texts file (New one kit right new) =
        record {
          kit = kit;
          right = right;
          tables = [];
          tables_of_kit = record { spelled = tt; played = tt };
          keeps = new_keeps table_files (version_number new.0) (in_words texts []) one new.1;
          names = new_files one texts kit new;
        }
    histories_name texts file (Behind p disk last image history ran honest of) =
        let ghosts = programs.ghosts p in
        left_between ghosts.Honest ghosts.Works ghosts.state ghosts.past ghosts.fault_count ghosts.write_count ghosts.sync_count short texts
        disk ran.store last (histories_name texts (content_of programs p disk) history) ran.opens ran.named ran.calls honest image of
    histories_name texts file (Within p disk last new moments image history ran calls of) =
        let ghosts = programs.ghosts p in
        left_in ghosts.Honest ghosts.Works ghosts.state ghosts.past ghosts.fault_count ghosts.write_count ghosts.sync_count short texts
        disk ran.store last (histories_name texts (content_of programs p disk) history) ran.opens ran.named ran.calls
        new calls.call calls.honest moments calls.passes image of

    pub histories_play_few : HistoriesPlayFew programs
    histories_play_few texts p disk store history opens named honest =
        let ghosts = programs.ghosts p in
        plays_few ghosts.Honest ghosts.Works ghosts.state ghosts.past ghosts.fault_count ghosts.write_count ghosts.sync_count short texts
        openings disk store (histories_name texts (content_of programs p disk) history) opens named honest
