-- What an opening does, from what was found in the file.
use Rattle.std.proofs.Common.{◌≡◌, ℕ, List, [], ◌∷◌, Option, Ok, Err, inl, inr, refl, sym, ap, subst, ◌∙◌, arith}
use Rattle.rr_checkpoint.specs.declared.plan.transcript.Transcript.{Transcript}
use Rattle.rr_checkpoint.specs.declared.writer.Writer.{Writer}
use Rattle.rr_checkpoint.specs.Writer as writer
use Rattle.rr_disk.specs.declared.fault.Fault.TheVariants as D
use Rattle.rr_disk.specs.Disk.{DiskState, IsImage, after_sync, counted}
use Rattle.rr_disk.specs.Moments.{SyncsOnce, Not_synced, Synced}
use Rattle.rr_disk.proofs.ImageLemmas.{each_synced, synced_may_stay}
use Rattle.rr_images.specs.Layout.{Keeps as KeepsFile}
use Rattle.rr_images.proofs.OneWorld.{kept_stands}
use Rattle.rr_kit.specs.declared.kit.Kit.{Kit}
use Rattle.rr_kit.specs.Kits.{KitTexts, SpellsKit}
use Rattle.rr_log.specs.Carrying.{IsBase as IsLogBase}
use Rattle.rr_log.specs.Log.{place_of}
use Rattle.rr_log.specs.Opening.Carrying.{CarriesRead, IsReadAs}
use Rattle.rr_log.specs.declared.opening.opened.Opened.{Opened}
use Rattle.rr_log.specs.Opening.Opened.{held_by}
use Rattle.rr_log.specs.Opening.Place.{GoesBehind}
use Rattle.rr_log.specs.Opening.Syncing.{IsSynced, WasSynced}
use Rattle.rr_reading.specs.declared.fault.Fault as reading
use Rattle.rr_reading.specs.declared.fault.Fault.TheVariants as R
use Rattle.rr_reading.specs.Faults as reading_of
use Rattle.rr_reading.specs.Held.{Held}
use Rattle.rr_reading.specs.Reading as reading_says
use Rattle.rr_reading.specs.Reading.{HasRoot, Holds}
use Rattle.rr_tables.specs.Records.Headline.{KeepsTables}
use Rattle.rr_tables.specs.Records.Taking.{table_files, table_rules}
use Rattle.rr_tables.specs.Records.Words.{in_words}
use Rattle.rr_pages.specs.Journal.Reading.{lines}
use Rattle.rr_pages.specs.declared.fault.Damage.{Damage}
use Rattle.rr_store.specs.declared.recovery.fault.Fault as recovery
use Rattle.rr_store.specs.declared.recovery.fault.Fault.TheVariants as C
use Rattle.rr_store.specs.Recovery.Telling as recovers
use Rattle.rr_tables.specs.Tables.{ArePlayed, HaveTheirSnapshots, world_of}
use Rattle.rr_reading.specs.Worlds.World as words
use Rattle.rr_store.specs.declared.fault.Fault.{Fault}
use Rattle.rr_store.specs.declared.fault.Fault.TheVariants as F
use Rattle.rr_store.specs.declared.found.Found.{Found}
use Rattle.rr_store.specs.declared.store.Store.{Store}
use Rattle.rr_store.specs.Allowing.{Between, Keeps}
use Rattle.rr_store.specs.Fault.{CountsFailure, OnDevice, of_reading, of_recovery}
use Rattle.rr_store.specs.Recovery.Fault as recovery_of
use Rattle.rr_store.specs.Files.{StandsFor}
use Rattle.rr_store.specs.Holding.{Carries, GamesArePlayed, GamesHaveSnapshots, disk_of, file_of, held_of, replayed_of, ticks_left}
use Rattle.rr_store.specs.Named.{NamesComing, NamesRoots, NamesSnapshots, SnapshotsAreShort}
use Rattle.rr_store.specs.NamedRoots.{NamesBase}
use Rattle.rr_store.specs.Replayed.{ReplaysFile}
use Rattle.rr_store.specs.Opening.{IsFound, IsNoVerdict, IsSyncedFirst, OpenAllows, Refuses, ShowsGamesAsPlayed, SyncsAtMost, SyncsFirst}
use Rattle.rr_store.specs.World.{World}
use Rattle.rr_store.proofs.NamedRoots.{names_root}
use Rattle.rr_store.proofs.Recovering.{base_named, only_recovered, recovered_played, recovered_snapshots, stands_now}
use Rattle.rr_store.proofs.Trusting.{standing_true}

-- refusals of the layers below

pub calm_read : (fault : reading.Fault) → reading_of.IsNoVerdict fault → IsNoVerdict (of_reading fault)
calm_read (R.Damaged damage) none = absurd none
calm_read R.NotAStore none = absurd none
calm_read (R.Disk D.DeviceFailed) none = inl refl
calm_read (R.Disk D.OutOfMemory) none = inr refl
calm_read R.OutOfMemory none = inr refl

module _ (file : List ℕ) (has : Held) (holds : Holds file has) where
  pub refuses_recovered : (fault : recovery.Fault) → recovers.Refuses has fault → Refuses file (of_recovery fault)
  refuses_recovered (C.Damaged damage) broken = inr (record { has = has; holds = holds; broken = broken })
  refuses_recovered (C.Disk D.DeviceFailed) broken = tt
  refuses_recovered (C.Disk D.OutOfMemory) broken = (has.side, has.root, holds.chains.has_directory.taken)
  refuses_recovered C.OutOfMemory broken = (has.side, has.root, holds.chains.has_directory.taken)

  -- memory is wanted for a file that holds something
  pub wants_memory : (fault : Fault) → fault ≡ F.OutOfMemory → Refuses file fault
  wants_memory fault wanted = subst (λ (f : Fault). Refuses file f) (sym wanted) (has.side, has.root, holds.chains.has_directory.taken)

-- a disk's fault is the device's
pub refuses_read : (file : List ℕ) (old new : ℕ) (fault : reading.Fault) → reading_of.CountsFault {T = Unit {0}} old new (Err fault) → reading_says.Refuses file fault → Refuses file (of_reading fault)
refuses_read file old new (R.Damaged damage) counts refused = inl refused
refuses_read file old new R.NotAStore counts refused = refused
refuses_read file old new (R.Disk D.DeviceFailed) counts refused = tt
refuses_read file old new (R.Disk D.OutOfMemory) counts refused = let never : D.OutOfMemory ≡ D.DeviceFailed = counts.0 in absurd (cc never)
refuses_read file old new R.OutOfMemory counts refused = refused

pub calm_recovered : (has : Held) → ((damage : Damage) → recovers.IsDamage has damage → ⊥) → (fault : recovery.Fault) → recovers.Refuses has fault → IsNoVerdict (of_recovery fault)
calm_recovered has never (C.Damaged damage) broken = absurd (never damage broken)
calm_recovered has never (C.Disk D.DeviceFailed) broken = inl refl
calm_recovered has never (C.Disk D.OutOfMemory) broken = inr refl
calm_recovered has never C.OutOfMemory broken = inr refl

-- the disk's clauses of a recovery
pub device_recovered : {P Q : Type 0} (fault : recovery.Fault) → recovery_of.OnDeviceFault {T = Unit {0}} (Err fault) P → (P → Q) → OnDevice (of_recovery fault) Q
device_recovered (C.Damaged damage) given so = tt
device_recovered (C.Disk D.DeviceFailed) given so = so given
device_recovered (C.Disk D.OutOfMemory) given so = tt
device_recovered C.OutOfMemory given so = tt

pub counts_recovered : (first old new : ℕ) (fault : recovery.Fault) → old ≡ first → recovery_of.CountsFault {T = Unit {0}} old new (Err fault) → CountsFailure first new (of_recovery fault)
counts_recovered first old new (C.Damaged damage) same counts = counts ∙ same
counts_recovered first old new (C.Disk D.DeviceFailed) same counts = counts.1 ∙ ap counted same
counts_recovered first old new (C.Disk D.OutOfMemory) same counts = let never : D.OutOfMemory ≡ D.DeviceFailed = counts.0 in absurd (cc never)
counts_recovered first old new C.OutOfMemory same counts = counts ∙ same

-- what was opened, of a disk that has later what it had
pub held_along : {T : Type 0} (opened : Opened T) (P : Held → Type 0) (now file : List ℕ) → now ≡ file → (Holds now (held_by now opened) → P (held_by now opened)) → Holds file (held_by file opened) → P (held_by file opened)
held_along opened P now file same so = subst (λ (f : List ℕ). Holds f (held_by f opened) → P (held_by f opened)) same so

pub synced_on : {past_old past_mid past_new : List DiskState} {old mid new : DiskState} → past_new ≡ past_mid → new ≡ mid → WasSynced past_old old past_mid mid → WasSynced past_old old past_new new
synced_on same_past same_state was = record { passed = same_past ∙ was.passed; settled = same_state ∙ was.settled }

-- and where its tables' chains were gone over
module _ {T : Type 0} (old new : Opened T) where
  pub goes_along : (file : List ℕ) → new.writer ≡ old.writer → held_by file new ≡ held_by file old → GoesBehind (writer.taken_of old.writer).root (lines old.near.records.items) (lines old.far.records.items) (writer.place_of old.writer)
      → GoesBehind (writer.taken_of new.writer).root (lines new.near.records.items) (lines new.far.records.items) (writer.place_of new.writer)
  goes_along file same_writer same_held goes =
      let behind : GoesBehind (held_by file new).root (held_by file new).near (held_by file new).far (writer.place_of old.writer) =
      subst (λ (has : Held). GoesBehind has.root has.near has.far (writer.place_of old.writer)) (sym same_held) goes in
      subst (λ (w : Writer T). GoesBehind (held_by file new).root (held_by file new).near (held_by file new).far (writer.place_of w)) (sym same_writer) behind

pub carries_along : {T : Type 0} (old new : Opened T) (before after : DiskState) (world : words.World) → after ≡ before → new.writer ≡ old.writer → held_by before.content new ≡ held_by before.content old
    → CarriesRead table_files old before world → CarriesRead table_files new after world
carries_along {T} old new before after world same_state same_writer same_held read =
    let by_writer : (carries : writer.Carries table_files new.writer before world) × IsReadAs carries.layout (held_by before.content old) world =
    subst (λ (w : Writer T). (carries : writer.Carries table_files w before world) × IsReadAs carries.layout (held_by before.content old) world) (sym same_writer) (read.carries, read.is_read) in
    subst (λ (state : DiskState). CarriesRead table_files new state world) (sym same_state)
    (record { carries = by_writer.0; is_read = subst (λ (has : Held). IsReadAs by_writer.0.layout has world) (sym same_held) by_writer.1 })

-- the moments of an opening
pub opened_by : (past_old : List DiskState) (old : DiskState) (past_new : List DiskState) (new : DiskState) (texts : KitTexts) (tables : World) → WasSynced past_old old past_new new
    → HasRoot old.content → ((others : KitTexts) (kept : World) → StandsFor old.content others kept → ◌≡◌ {A = KitTexts × World} (texts, tables) (others, kept))
    → (ShowsGamesAsPlayed old.content → StandsFor old.content texts tables)
    → Between past_old old past_new new (λ moments. OpenAllows old moments new (Ok (texts, tables)))
opened_by past_old old past_new new texts tables was root only shown =
    record {
      moments = after_sync old ∷ [];
      passed = λ i. was.settled i ∷ was.passed i;
      allowed = (
        refl,
        root,
        λ others kept stands. record {
          same = only others kept stands;
          keeps = subst (λ (state : DiskState). Keeps state others kept) (sym was.settled) (each_synced old (λ image. StandsFor image others kept) stands);
        },
        shown,
      );
    }

failed_by : (past_old : List DiskState) (old : DiskState) (past_new : List DiskState) (new : DiskState) → SyncsOnce past_old old past_new new
    → Between past_old old past_new new (λ moments. OpenAllows old moments new (Err F.DeviceFailed))
failed_by past_old old past_new new (Not_synced same_past same_state) =
    record { moments = []; passed = λ i. same_state i ∷ same_past i; allowed = (inl refl, tt) }
failed_by past_old old past_new new (Synced passed settled) =
    record { moments = after_sync old ∷ []; passed = λ i. settled i ∷ passed i; allowed = (inr refl, tt) }

pub left_by : (past_old : List DiskState) (old : DiskState) (past_new : List DiskState) (new : DiskState) (fault : Fault) → IsSyncedFirst fault past_old old past_new new → Refuses old.content fault
    → Between past_old old past_new new (λ moments. OpenAllows old moments new (Err fault))
left_by past_old old past_new new F.DeviceFailed was why = failed_by past_old old past_new new was
left_by past_old old past_new new _ was why =
    record { moments = after_sync old ∷ []; passed = λ i. was.settled i ∷ was.passed i; allowed = (refl, why) }

-- one sync at most
pub syncs_at_most : (fault : Fault) (old : DiskState) (moments : List DiskState) → SyncsFirst fault old moments → SyncsAtMost old moments
syncs_at_most F.DeviceFailed old moments at_most = at_most
syncs_at_most _ old moments first = inr first

-- the sync behind which a layer below refuses the file
module _ (past_old : List DiskState) (old : DiskState) (past_new : List DiskState) (new : DiskState) where
  pub synced_read : (counted_old counted_new : ℕ) (fault : reading.Fault) → reading_of.CountsFault {T = Unit {0}} counted_old counted_new (Err fault)
      → IsSynced {T = Unit {0}} (Err fault) past_old old past_new new → IsSyncedFirst (of_reading fault) past_old old past_new new
  synced_read counted_old counted_new (R.Damaged damage) counts was = was
  synced_read counted_old counted_new R.NotAStore counts was = was
  synced_read counted_old counted_new (R.Disk D.DeviceFailed) counts once = once
  synced_read counted_old counted_new (R.Disk D.OutOfMemory) counts once = let never : D.OutOfMemory ≡ D.DeviceFailed = counts.0 in absurd (cc never)
  synced_read counted_old counted_new R.OutOfMemory counts was = was

  pub synced_recovered : (fault : recovery.Fault) → WasSynced past_old old past_new new → IsSyncedFirst (of_recovery fault) past_old old past_new new
  synced_recovered (C.Damaged damage) was = was
  synced_recovered (C.Disk D.DeviceFailed) was = Synced was.passed was.settled
  synced_recovered (C.Disk D.OutOfMemory) was = was
  synced_recovered C.OutOfMemory was = was

  pub synced_wanting : (fault : Fault) → fault ≡ F.OutOfMemory → WasSynced past_old old past_new new → IsSyncedFirst fault past_old old past_new new
  synced_wanting fault wanted was = subst (λ (f : Fault). IsSyncedFirst f past_old old past_new new) (sym wanted) was

module _ {D : Type 0} (Honest : D → Type 0) (state : D → DiskState) (past : D → List DiskState) (old then : D) (store : Store D) (found : Found)
    (disk_is : disk_of store ≡ then) (kit_is : (held_of store).kit ≡ found.recovered.tables.kit) (tables_are : (held_of store).tables ≡ world_of found.recovered.tables)
    (is_found : Honest then → IsFound (state old).content found) where
  -- the store holds what the file stands for, if it stands for a world
  pub opened_store : (Honest then → WasSynced (past old) (state old) (past then) (state then)) → Honest (disk_of store)
      → (texts : KitTexts) × Between (past old) (state old) (past (disk_of store)) (state (disk_of store))
      (λ moments. OpenAllows (state old) moments (state (disk_of store)) (Ok (texts, (held_of store).tables))) × SpellsKit texts (held_of store).kit
  opened_store was h =
      let honest = subst Honest disk_is h in
      let has = held_by (state old).content found.opened in
      let holds = (is_found honest).holds in
      let r = (is_found honest).recovered in
      let root : HasRoot (state old).content = (has.side, has.root, holds.chains.has_directory.taken) in
      let opened = opened_by (past old) (state old) (past then) (state then) r.texts (world_of found.recovered.tables) (was honest) root
      (λ others kept stands. only_recovered (state old).content has found.recovered holds r others kept stands)
      (λ shows. stands_now has r.texts found.recovered (r.told (shows has holds)) (state old).content holds) in
      let of_store = subst (λ (w : World). Between (past old) (state old) (past then) (state then) (λ moments. OpenAllows (state old) moments (state then) (Ok (r.texts, w)))) (sym tables_are) opened in (
        r.texts,
        subst (λ (d : D). Between (past old) (state old) (past d) (state d) (λ moments. OpenAllows (state old) moments (state d) (Ok (r.texts, (held_of store).tables)))) (sym disk_is) of_store,
        subst (λ (k : Kit). SpellsKit r.texts k) (sym kit_is) r.right,
      )

  -- and then its tables were played
  pub played_store : (ArePlayed found.recovered.tables → GamesArePlayed store) → Honest (disk_of store) → (texts : KitTexts) (tables : World)
      → StandsFor (state old).content texts tables → GamesArePlayed store
  played_store so h texts tables stands =
      let f = is_found (subst Honest disk_is h) in
      so (recovered_played (state old).content (held_by (state old).content found.opened) found.recovered f.holds f.recovered texts tables stands)

  -- and have their snapshots
  pub snapshots_store : (HaveTheirSnapshots found.recovered.tables → GamesHaveSnapshots store) → Honest (disk_of store) → (texts : KitTexts) (tables : World)
      → StandsFor (state old).content texts tables → GamesHaveSnapshots store
  snapshots_store so h texts tables stands =
      let f = is_found (subst Honest disk_is h) in
      so (recovered_snapshots (state old).content (held_by (state old).content found.opened) found.recovered f.holds f.recovered texts tables stands)

  -- and few commands were played for that
  pub replayed_store : replayed_of store ≡ found.recovered.replayed
      → (Honest then → (texts : KitTexts) (tables : World) → StandsFor (state old).content texts tables → ReplaysFile (state old).content found.recovered.tables.kit found.recovered.replayed)
      → Honest (disk_of store) → (texts : KitTexts) (tables : World) → StandsFor (state old).content texts tables → ReplaysFile (state old).content (held_of store).kit (replayed_of store)
  replayed_store same so h texts tables stands =
      subst (λ (k : Kit). ReplaysFile (state old).content k (replayed_of store)) (sym kit_is)
      (subst (λ (n : ℕ). ReplaysFile (state old).content found.recovered.tables.kit n) (sym same) (so (subst Honest disk_is h) texts tables stands))

  -- and it goes on with a file that keeps it
  pub carries_store : ((texts : KitTexts) → IsFound (state then).content found → writer.ticks_left_of found.opened.writer ≡ 0
      → GoesBehind (writer.taken_of found.opened.writer).root (lines found.opened.near.records.items) (lines found.opened.far.records.items) (writer.place_of found.opened.writer)
      → CarriesRead table_files found.opened (state then) (in_words texts (world_of found.recovered.tables)) → Carries state store texts)
      → writer.ticks_left_of found.opened.writer ≡ 0
      → (Honest then → GoesBehind (writer.taken_of found.opened.writer).root (lines found.opened.near.records.items) (lines found.opened.far.records.items) (writer.place_of found.opened.writer))
      → (Honest then → WasSynced (past old) (state old) (past then) (state then))
      → (Honest then → (world : words.World) → KeepsFile table_files (state old).content world → CarriesRead table_files found.opened (state then) world)
      → Honest (disk_of store) → (texts : KitTexts) → KeepsTables texts (held_of store).tables (state old).content → Carries state store texts
  carries_store begun resting place was goes_on h texts keeps =
      let honest = subst Honest disk_is h in
      let here = subst (λ (s : DiskState). IsFound s.content found) (sym (was honest).settled) (is_found honest) in
      begun texts here resting (place honest)
      (goes_on honest (in_words texts (world_of found.recovered.tables)) (subst (λ (w : World). KeepsTables texts w (state old).content) tables_are keeps))

  module _ (rests : ticks_left store ≡ 0) (same_base : (file_of store).base ≡ found.recovered.base) (was : Honest then → WasSynced (past old) (state old) (past then) (state then))
      (goes_on : Honest (disk_of store) → (texts : KitTexts) → KeepsTables texts (held_of store).tables (state old).content → Carries state store texts) where
    -- and where it found a checkpoint begun, that is to name just the snapshots that its tables are to have
    pub comes_store : Honest (disk_of store) → (texts : KitTexts) → KeepsTables texts (held_of store).tables (state old).content → SnapshotsAreShort (held_of store).kit
        → NamesComing state store texts
    comes_store h texts keeps short =
        let honest = subst Honest disk_is h in
        let file = (state old).content in
        let world = in_words texts (held_of store).tables in
        let log = file_of store in
        let f = is_found honest in
        let has = held_by file found.opened in
        let r = f.recovered.told (standing_true file has f.holds world (kept_stands table_files keeps.layout file world keeps.kept)) in
        let carries = (goes_on h texts keeps).file in
        let middle = carries.carried.layout.middle in
        let of_log = subst (λ (base : Option Transcript). IsLogBase table_rules (place_of log).begun base middle) same_base (carries.base rests) in
        let named = base_named has f.recovered.texts found.recovered r (subst (λ (k : Kit). SnapshotsAreShort k) kit_is short) (place_of log).begun middle of_log in
        let named_here = subst (λ (base : Option Transcript). NamesBase found.recovered.tables.kit base middle) (sym same_base) named in
        record {
          carries = carries;
          coming = λ some. absurd (omega (arith, some, rests));
          found = λ still. subst (λ (k : Kit). NamesBase k log.base middle) (sym kit_is) named_here;
        }

    -- and where the root of the file does, so does the store's
    pub names_store : Honest (disk_of store) → (texts : KitTexts) → KeepsTables texts (held_of store).tables (state old).content → SnapshotsAreShort (held_of store).kit
        → NamesSnapshots (held_of store).kit (state old).content → NamesRoots state store texts
    names_store h texts keeps short names =
        let honest = subst Honest disk_is h in
        let file = (state old).content in
        let coming = comes_store h texts keeps short in
        let carried = coming.carries.carried in
        let synced : state (disk_of store) ≡ after_sync (state old) = ap state disk_is ∙ (was honest).settled in
        let image = subst (λ (s : DiskState). IsImage s file) (sym synced) (synced_may_stay (state old)) in
        record {
          names = coming;
          taken = names_root file (held_of store).kit carried.layout (in_words texts (held_of store).tables) (carried.between.each file image) (held_by file found.opened) (is_found honest).holds names;
        }
