-- What steps of a checkpoint do, from what the open file does.
use Rattle.std.proofs.Common.{◌≡◌, ◌↔◌, ℕ, Bool, true, false, List, [], ◌∷◌, ◌++◌, Result, Ok, Err, IfErr, IsErrOf, IsTrue, inl, inr, refl, sym, ap, subst, ◌∙◌, arith}
use Rattle.rr_checkpoint.specs.Calls.{IsRootAt, LeavesKept}
use Rattle.rr_checkpoint.proofs.Writers.{left_kept, left_under}
use Rattle.rr_disk.specs.Disk.{DiskState}
use Rattle.rr_disk.specs.Moments.{EachImage, EachImageOf, LeavesOnly}
use Rattle.rr_disk.proofs.MomentLemmas.{EachImageOf-weaker, weaker}
use Rattle.rr_images.specs.Holding.{Holding}
use Rattle.rr_images.specs.Layout.{Layout}
use Rattle.rr_kit.specs.declared.kit.Kit.{Kit}
use Rattle.rr_kit.specs.Kits.{KitTexts, SpellsKit}
use Rattle.rr_log.specs.declared.fault.Fault as log
use Rattle.rr_log.specs.declared.fault.Fault.TheVariants as L
use Rattle.rr_log.specs.declared.log.Log.{Log}
use Rattle.rr_log.specs.Calls as calls
use Rattle.rr_log.specs.Carrying as carrying
use Rattle.rr_log.specs.Fault.{CountsFault, IsWant, ends_broken}
use Rattle.rr_log.specs.Fault as log_fault
use Rattle.rr_log.specs.Log as file
use Rattle.rr_log.specs.Roots.{IsRootWithin, KeepsRoots, TakesRoot}
use Rattle.rr_log.proofs.Roots.{within_step}
use Rattle.rr_tables.specs.declared.records.rules.TableRules.{TableRules}
use Rattle.rr_tables.specs.Records.Headline.{KeepsTables}
use Rattle.rr_tables.specs.Records.Taking.{table_files, table_rules}
use Rattle.rr_tables.specs.Records.Words.{in_words}
use Rattle.rr_tables.specs.declared.tables.Tables.{Tables}
use Rattle.rr_tables.specs.Tables.{ArePlayed, HaveTheirSnapshots, world_of}
use Rattle.rr_log.specs.Lent.{AreLentOf, Lent}
use Rattle.rr_reading.specs.Worlds.World as words
use Rattle.rr_store.specs.declared.fault.Fault.{Fault}
use Rattle.rr_store.specs.declared.fault.Fault.TheVariants as F
use Rattle.rr_store.specs.declared.store.Store.{Store}
use Rattle.rr_store.specs.Allowing.{Between, TickAllows}
use Rattle.rr_store.specs.Fault.{CountsEnd, OnDeviceFault, of_log}
use Rattle.rr_store.specs.Files.{AreTablesOf, StandsFor}
use Rattle.rr_store.specs.Holding.{Carries, disk_of, file_of, held_of, lent_of, ticks_left}
use Rattle.rr_store.specs.Named.{KeepsNames, LendsNamed, NamesComing, NamesRoots, NamesSnapshots}
use Rattle.rr_store.specs.NamedRoots as roots
use Rattle.rr_store.specs.Ticking.{RefusesStep, Steps, held_behind}
use Rattle.rr_store.specs.World.{World}
use Rattle.rr_store.proofs.KeptNames.{ends_names, keeps_names, named_within, renews_names, takes_names}
use Rattle.rr_store.proofs.NamedRoots.{names_there, root_named, roots_there, store_named}
use Rattle.rr_store.proofs.Standing.{carried_keeps, carried_lent}
use Rattle.rr_store.proofs.Worlds.{kept_stand}

-- the present state is the last of the moments, or the first one
pub first_of : {s t : DiskState} {ss ts : List DiskState} → s ∷ ss ≡ t ∷ ts → t ≡ s
first_of same = cc

pub ends_so : (since past_old past_new : List DiskState) (old new : DiskState) (P : List ℕ → Type 0) → new ∷ past_new ≡ since ++ old ∷ past_old
    → EachImage old P → EachImageOf since P → EachImage new P
ends_so [] past_old past_new old new P passed first each = subst (λ (s : DiskState). EachImage s P) (first_of passed) first
ends_so (state ∷ since) past_old past_new old new P passed first each = subst (λ (s : DiskState). EachImage s P) (first_of passed) each.0

not_true : (b : Bool) → (IsTrue b → ⊥) → b ≡ false
not_true true never = absurd (never refl)
not_true false never = refl

-- what is so where the device of the open file failed is so where the store tells it
device_of : (T : Type 0) {P Q : Type 0} (fault : log.Fault) → (P → Q) → log_fault.OnDeviceFault {T = T} (Err fault) P → OnDeviceFault {T = T} (Err (of_log fault)) Q
device_of T L.DeviceFailed so given = so given
device_of T L.HalfFull so given = tt
device_of T L.FileFull so given = tt
device_of T L.OpenAgain so given = tt
device_of T L.OutOfMemory so given = tt

-- within a step the root is the one from before it, or the one that it takes
pub stops_within : {D : Type 0} {past_old : List DiskState} {now : DiskState} {past_new : List DiskState} {new : DiskState} (old : Log D TableRules) (tables : Lent) (before : Layout table_files) (coming : Holding) (world : words.World)
    → LeavesKept table_files (IsRootAt (file.ticks_left old) before coming) past_old now past_new new world
    → LeavesKept table_files (IsRootWithin old (calls.tables_due old.base tables).snapshots before coming) past_old now past_new new world
stops_within old tables before coming world stops =
    left_under table_files world (IsRootAt (file.ticks_left old) before coming) (IsRootWithin old (calls.tables_due old.base tables).snapshots before coming) (λ layout is. within_step layout is) stops

module _ {D : Type 0} (Honest Works : D → Type 0) (state : D → DiskState) (past : D → List DiskState) (faults : D → ℕ) where
  -- what becomes of its roots
  pub record Named (old : Log D TableRules) (tables : Lent) (new : Log D TableRules) : Type 0 where
    pub keeps : file.is_broken new ≡ false → Honest (file.disk_of new) → (world : words.World) → AreLentOf table_rules world tables → (kit : Kit)
        → (file.ticks_left old ≡ 0 → roots.AreTheirSnapshots kit world tables.snapshots)
        → roots.KeepsNames kit state old world new world
    pub renews : file.is_broken new ≡ false → Honest (file.disk_of new) → (world : words.World) → AreLentOf table_rules world tables → (kit : Kit)
        → file.ticks_left old ≡ 1 → file.ticks_left new ≡ 0 → roots.NamesComing kit old (state (file.disk_of old)) world → roots.NamesRoots kit new (state (file.disk_of new)) world

  -- by steps
  pub named_by_steps : (old : Log D TableRules) (tables : Lent) (new : Log D TableRules)
      → (file.is_broken new ≡ false → Honest (file.disk_of new) → (world : words.World) → AreLentOf table_rules world tables
      → (carries : carrying.Carries table_rules old (state (file.disk_of old)) world) → (then : carrying.Carries table_rules new (state (file.disk_of new)) world)
      × KeepsRoots old new (calls.tables_due old.base tables).snapshots carries.carried.layout carries.carried.holding then.carried.layout then.carried.holding)
      → Named old tables new
  named_by_steps old tables new keeps =
      record {
        keeps = λ whole h world lent kit named. keeps_names kit state old new world world tables (keeps whole h world lent) named;
        renews = λ whole h world lent kit one none names. renews_names kit state old new world world tables (keeps whole h world lent) one none names;
      }

  -- by a whole checkpoint
  pub named_by_whole : (old : Log D TableRules) (tables : Lent) (new : Log D TableRules)
      → (Honest (file.disk_of new) → (world : words.World) → AreLentOf table_rules world tables
      → (carries : carrying.Carries table_rules old (state (file.disk_of old)) world) → (then : carrying.Carries table_rules new (state (file.disk_of new)) world)
      × TakesRoot old (calls.tables_due old.base tables).snapshots carries.carried.layout carries.carried.holding then.carried.layout)
      → file.ticks_left new ≡ 0 → file.HasNoneBegun (file.place_of new) → Named old tables new
  named_by_whole old tables new takes left rests =
      record {
        keeps = λ whole h world lent kit named. ends_names kit state old new world world tables (takes h world lent) left rests named;
        renews = λ whole h world lent kit one none names.
            takes_names kit state old new world world tables (takes h world lent) left rests (λ still. absurd (omega (arith, one, still))) names;
      }

  -- what the open file does
  pub record Stepped {T : Type 0} (old : Log D TableRules) (tables : Lent) (result : Result T log.Fault) (new : Log D TableRules) : Type 0 where
    pub stops : Honest (file.disk_of new) → (world : words.World) → AreLentOf table_rules world tables → (carries : carrying.Carries table_rules old (state (file.disk_of old)) world)
        → LeavesKept table_files (IsRootWithin old (calls.tables_due old.base tables).snapshots carries.carried.layout carries.carried.holding) (past (file.disk_of old)) (state (file.disk_of old)) (past (file.disk_of new)) (state (file.disk_of new)) world
    pub carries : Honest (file.disk_of new) → file.is_broken new ≡ false → (world : words.World) → AreLentOf table_rules world tables
        → carrying.Carries table_rules old (state (file.disk_of old)) world → carrying.Carries table_rules new (state (file.disk_of new)) world
    pub named : Named old tables new
    pub number : file.next_number new ≡ file.next_number old
    pub again : IsErrOf result L.OpenAgain ↔ IsTrue (file.is_broken old)
    pub untouched : IsErrOf result L.OpenAgain → new ≡ old
    pub broken : file.is_broken new ≡ ends_broken result
    pub full : IsErrOf result L.FileFull → calls.IsFileFull old tables
    pub first : IfErr result (λ fault. IsWant fault → file.ticks_left old ≡ 0)
    pub unchanged : IfErr result (λ fault. IsWant fault → calls.IsUnchanged old new)
    pub room : IsErrOf result L.HalfFull → ⊥
    pub fault : CountsFault (faults (file.disk_of old)) (faults (file.disk_of new)) result
    pub honest : Honest (file.disk_of new) → Honest (file.disk_of old)
    pub works : Works (file.disk_of new) → Works (file.disk_of old)
    pub device : log_fault.OnDeviceFault result (Honest (file.disk_of new) → (world : words.World) → AreLentOf table_rules world tables
        → carrying.Carries table_rules old (state (file.disk_of old)) world → Works (file.disk_of new) → ⊥)

  module _ (old new : Store D) (same : new.tables ≡ old.tables) where
    abbrev tables_now : World
    tables_now = (held_of old).tables

    abbrev StepsTo : {T : Type 0} → Result T Fault → Type 0
    StepsTo result = Steps Honest Works state past faults old result new

    held_if : (b : Bool) → file.is_broken (file_of new) ≡ b → held_of new ≡ record { kit = (held_of old).kit; tables = tables_now; broken = b }
    held_if b is = λ i. record { kit = (same i).kit; tables = world_of (same i); broken = is i }

    module _ {T : Type 0} (result : Result T log.Fault) (s : Stepped (file_of old) (lent_of old) result (file_of new)) where
      keeps_by : Honest (disk_of new) → (texts : KitTexts) → Carries state old texts
          → LeavesOnly (past (disk_of old)) (state (disk_of old)) (past (disk_of new)) (state (disk_of new)) (KeepsTables texts tables_now)
      keeps_by h texts carries =
          let log = file_of old in
          let carried = carries.file.carried in
          left_kept table_files (in_words texts tables_now) (IsRootWithin log (calls.tables_due log.base (lent_of old)).snapshots carried.layout carried.holding)
          (s.stops h (in_words texts tables_now) (carried_lent state old texts carries) carries.file)

      allowed_by : Honest (disk_of new) → (texts : KitTexts) → Carries state old texts
          → Between (past (disk_of old)) (state (disk_of old)) (past (disk_of new)) (state (disk_of new))
          (λ moments. TickAllows texts tables_now (state (disk_of old)) moments (state (disk_of new)))
      allowed_by h texts carries =
          let stops = keeps_by h texts carries in
          let stands = kept_stand texts (held_of old).kit tables_now carries.right carries.tables_of_kit in
          let each = EachImageOf-weaker stops.since (KeepsTables texts tables_now) (λ image. StandsFor image texts tables_now) stands stops.each in
          record {
            moments = stops.since;
            passed = stops.goes_on;
            allowed = record {
              before = carried_keeps state old texts carries;
              each = each;
              ends = ends_so stops.since (past (disk_of old)) (past (disk_of new)) (state (disk_of old)) (state (disk_of new)) (λ image. StandsFor image texts tables_now)
                  stops.goes_on (carried_keeps state old texts carries) each;
            };
          }

      carries_by : Honest (disk_of new) → (held_of new).broken ≡ false → (texts : KitTexts) → Carries state old texts → Carries state new texts
      carries_by h whole texts carries = record {
        right = subst (λ (t : Tables). SpellsKit texts t.kit) (sym same) carries.right;
        tables_of_kit = subst (λ (t : Tables). AreTablesOf t.kit (world_of t)) (sym same) carries.tables_of_kit;
        played = subst ArePlayed (sym same) carries.played;
        file = subst (λ (t : Tables). carrying.Carries table_rules (file_of new) (state (disk_of new)) (in_words texts (world_of t))) (sym same)
            (s.carries h whole (in_words texts tables_now) (carried_lent state old texts carries) carries.file);
      }

      names_by : Honest (disk_of new) → (held_of new).broken ≡ false → (texts : KitTexts) → Carries state old texts
          → (ticks_left old ≡ 0 → LendsNamed old) → KeepsNames state old new texts
      names_by h whole texts carries may =
          names_there state old new texts tables_now (file.is_broken (file_of new)) (held_if (file.is_broken (file_of new)) refl)
          (s.named.keeps whole h (in_words texts tables_now) (carried_lent state old texts carries) (held_of old).kit
          (λ rests. store_named state old texts carries (may rests)))

      names_stops_by : Honest (disk_of new) → (texts : KitTexts) → Carries state old texts → (ticks_left old ≡ 0 → LendsNamed old) → NamesRoots state old texts
          → LeavesOnly (past (disk_of old)) (state (disk_of old)) (past (disk_of new)) (state (disk_of new)) (NamesSnapshots (held_of old).kit)
      names_stops_by h texts carries may names =
          let kit = (held_of old).kit in
          let world = in_words texts tables_now in
          weaker (s.stops h world (carried_lent state old texts carries) names.names.carries) (NamesSnapshots kit) (λ image left.
          root_named image kit left.layout world left.kept
          (named_within kit state (file_of old) (file_of new) world world (lent_of old) (λ rests. store_named state old texts carries (may rests)) names left.layout left.is_root))

      renews_by : Honest (disk_of new) → (held_of new).broken ≡ false → ticks_left old ≡ 1 → ticks_left new ≡ 0 → (texts : KitTexts) → Carries state old texts
          → NamesComing state old texts → NamesRoots state new texts
      renews_by h whole one none texts carries names =
          roots_there state old new texts tables_now (file.is_broken (file_of new)) (held_if (file.is_broken (file_of new)) refl)
          (s.named.renews whole h (in_words texts tables_now) (carried_lent state old texts carries) (held_of old).kit one none names)

    pub steps_done : {T : Type 0} (value : T) → Stepped (file_of old) (lent_of old) (Ok value) (file_of new) → StepsTo (Ok value)
    steps_done value s =
        record {
          honest = s.honest;
          allowed = allowed_by (Ok value) s;
          keeps = keeps_by (Ok value) s;
          carries = carries_by (Ok value) s;
          names = names_by (Ok value) s;
          names_stops = names_stops_by (Ok value) s;
          renews_names = renews_by (Ok value) s;
          held = held_if (file.is_broken (file_of old)) (s.broken ∙ sym (not_true (file.is_broken (file_of old)) (λ broken. never (s.again.1 broken))));
          played = λ played. subst ArePlayed (sym same) played;
          snapshots = λ had. subst HaveTheirSnapshots (sym same) had;
          number = s.number;
          again = (λ is. absurd (cc is), λ broken. absurd (never (s.again.1 broken)));
          refused = tt;
          counts = s.fault;
          works = s.works;
          device = tt;
        }
      where
        never : {A : Type 0} → IsErrOf {E = log.Fault} (Ok value) L.OpenAgain → A
        never is = absurd (cc is)

    module _ (T : Type 0) where
      abbrev Told : log.Fault → Type 0
      Told fault = Stepped {T = T} (file_of old) (lent_of old) (Err fault) (file_of new)

      refused_so : (fault : log.Fault) (s : Told fault) → held_of new ≡ held_behind {T = T} (Err (of_log fault)) (held_of old)
          → (IsErrOf {T = T} (Err (of_log fault)) F.OpenAgain ↔ IsTrue (held_of old).broken) → RefusesStep old new (of_log fault)
          → CountsEnd {T = T} (faults (disk_of old)) (faults (disk_of new)) (Err (of_log fault)) → StepsTo {T = T} (Err (of_log fault))
      refused_so fault s held again refused counts =
          record {
            honest = s.honest;
            allowed = allowed_by (Err fault) s;
            keeps = keeps_by (Err fault) s;
            carries = carries_by (Err fault) s;
            names = names_by (Err fault) s;
            names_stops = names_stops_by (Err fault) s;
            renews_names = renews_by (Err fault) s;
            held = held;
            played = λ played. subst ArePlayed (sym same) played;
            snapshots = λ had. subst HaveTheirSnapshots (sym same) had;
            number = s.number;
            again = again;
            refused = refused;
            counts = counts;
            works = s.works;
            device = device_of T fault (λ device h texts carries. device h (in_words texts tables_now) (carried_lent state old texts carries) carries.file) s.device;
          }

      -- one that isn't told of a broken store is of a whole one
      whole : (fault : log.Fault) → Told fault → (fault ≡ L.OpenAgain → ⊥) → file.is_broken (file_of old) ≡ false
      whole fault s other = not_true (file.is_broken (file_of old)) (λ broken. other (let is = s.again.1 broken in let one : fault ≡ L.OpenAgain = cc is in one))

      not_again : (fault : log.Fault) → Told fault → (fault ≡ L.OpenAgain → ⊥) → (of_log fault ≡ F.OpenAgain → ⊥) → IsErrOf {T = T} (Err (of_log fault)) F.OpenAgain ↔ IsTrue (held_of old).broken
      not_again fault s other none = (
        λ is. absurd (none (let one : of_log fault ≡ F.OpenAgain = cc is in one)),
        λ broken. absurd (other (let is = s.again.1 broken in let one : fault ≡ L.OpenAgain = cc is in one)),
      )

      pub steps_refused : (fault : log.Fault) → Told fault → StepsTo {T = T} (Err (of_log fault))
      steps_refused L.DeviceFailed s =
          refused_so L.DeviceFailed s (held_if true s.broken) (not_again L.DeviceFailed s (λ is. cc is) (λ is. cc is)) tt s.fault
      steps_refused L.HalfFull s = absurd (s.room refl)
      steps_refused L.FileFull s =
          let held = held_if (file.is_broken (file_of old)) (s.broken ∙ sym (whole L.FileFull s (λ is. cc is))) in
          refused_so L.FileFull s held (not_again L.FileFull s (λ is. cc is) (λ is. cc is))
          (s.first (inl refl), s.full refl, record { same_file = s.unchanged (inl refl); same_held = held }) s.fault
      steps_refused L.OpenAgain s =
          let still = s.untouched refl in
          let held = held_if (file.is_broken (file_of old)) (ap (λ (f : Log D TableRules). file.is_broken f) still) in
          refused_so L.OpenAgain s held (λ is. s.again.0 refl, λ broken. refl) (record { same_file = still; same_held = held }) s.fault
      steps_refused L.OutOfMemory s =
          let held = held_if (file.is_broken (file_of old)) (s.broken ∙ sym (whole L.OutOfMemory s (λ is. cc is))) in
          refused_so L.OutOfMemory s held (not_again L.OutOfMemory s (λ is. cc is) (λ is. cc is))
          (s.first (inr refl), record { same_file = s.unchanged (inr refl); same_held = held }) s.fault
