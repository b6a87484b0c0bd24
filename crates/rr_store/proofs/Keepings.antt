-- What keeping a record does, from what the open file does.
use Rattle.std.proofs.Common.{◌≡◌, ◌⊎◌, ◌↔◌, ℕ, ◌+◌, ◌^◌, ◌<◌, ◌≤◌, Bool, true, false, List, length, Option, None, Some, Result, Ok, Err, IfErr, IfOk, IsErrOf, IsTrue, OnErr, OnOk, inl, inr, refl, sym, ap, subst, ◌∙◌, arith}
use Rattle.std.proofs.lemmas.Bool.{cases_eq, cases_lt}
use Rattle.rr_checkpoint.specs.Calls.{IsRootAt, LeavesEither, LeavesKept}
use Rattle.rr_checkpoint.specs.Growing.{AreReclaimed, GrowsWhereFull}
use Rattle.rr_checkpoint.proofs.Growing.{grows_on}
use Rattle.rr_checkpoint.proofs.Writers.{carried_kept, either_kept, either_under}
use Rattle.rr_disk.specs.Disk.{DiskState}
use Rattle.rr_disk.specs.Moments.{EachImage, LeavesOnly}
use Rattle.rr_disk.proofs.MomentLemmas.{joins, started, weaker}
use Rattle.rr_images.specs.Calls.{TakesNewer}
use Rattle.rr_images.specs.Layout.{Keeps, KeepsUnder, Layout}
use Rattle.rr_images.proofs.Ticks.{still_root}
use Rattle.rr_pages.specs.FreePages.{coming_of, present_of}
use Rattle.rr_pages.specs.declared.journal.half.Half.{Half}
use Rattle.rr_pages.specs.Journal.Layout.{HasRoom}
use Rattle.rr_log.specs.declared.fault.Fault.{Fault}
use Rattle.rr_log.specs.declared.fault.Fault.TheVariants as F
use Rattle.rr_log.specs.declared.keeping.PutOff.{PutOff}
use Rattle.rr_log.specs.declared.keeping.PutOff.TheVariants as P
use Rattle.rr_log.specs.declared.log.Log.{Log}
use Rattle.rr_checkpoint.specs.Checkpoint.{left_behind_first}
use Rattle.rr_checkpoint.specs.declared.plan.standing.StandingSnapshot.{StandingSnapshot}
use Rattle.rr_log.specs.Calls.{MayRefuse, MeetsFullFile, NumberBehind, first_left, layout_behind, tables_due, ticks_due, world_behind}
use Rattle.rr_log.specs.Carrying.{Carries, HaveSameTexts}
use Rattle.rr_log.specs.Fault.{CountsFault, IsWant, OnDeviceFault, ends_broken}
use Rattle.rr_log.specs.Log.{HasNoRoom, IsDue, IsPastLast, IsTooLong, disk_of, free_of, is_broken, next_number, place_of, ticks_left}
use Rattle.rr_log.specs.Growing.{Grows, TakesPages}
use Rattle.rr_log.specs.PuttingOff.{BeginsIfDue}
use Rattle.rr_log.specs.Roots.{IsRootWithin, KeepsRoots}
use Rattle.rr_log.proofs.Carried.{device_more}
use Rattle.rr_log.proofs.Roots.{within_step}
use Rattle.rr_log.proofs.Growing.{grows_to, grows_told, pages_still, stays_long}
use Rattle.rr_tables.specs.declared.records.rules.TableRules.{TableRules}
use Rattle.rr_tables.specs.Records.Taking.{Takes, table_files, table_rules}
use Rattle.rr_kit.specs.declared.kit.Kit.{Kit}
use Rattle.rr_kit.specs.Kits.{KitTexts}
use Rattle.rr_log.specs.Lent.{AreLentOf, Lent, pages_of}
use Rattle.rr_reading.specs.Worlds.World as words
use Rattle.rr_store.specs.NamedRoots.{AreTheirSnapshots, IsNamed, KeepsNames, NamesComing, NamesRoots}
use Rattle.rr_store.proofs.KeptNames.{keeps_names, named_within, names_on, names_still, renews_names, rests_named}
use Rattle.rr_store.specs.Keeping.{AreComing, ComesOn, GrowsInAll, IsFull, Keeping, MakesAtMost, length_on, told_of}

abbrev Kept : Type 0
Kept = Result (Option PutOff) Fault

abbrev Ended : Type 0
Ended = Result (Unit {0}) Fault

-- a record leads to a world of the same texts
pub same_texts : (bytes : List ℕ) (before behind : words.World) → Takes bytes before behind → HaveSameTexts before behind
same_texts bytes before behind takes =
    record {
      of_chart = ap (λ (t : KitTexts). t.chart) takes.same_texts;
      of_roster = ap (λ (t : KitTexts). t.roster) takes.same_texts;
      of_tiles = ap (λ (t : KitTexts). t.tiles) takes.same_texts;
      of_board = ap (λ (t : KitTexts). t.board) takes.same_texts;
    }

-- the next record has the same number
number_same : (fault : Fault) (old new : ℕ) → new ≡ old → NumberBehind {T = Option PutOff} (Err fault) old new
number_same F.DeviceFailed old new same = tt
number_same F.HalfFull old new same = same
number_same F.FileFull old new same = same
number_same F.OpenAgain old new same = same
number_same F.OutOfMemory old new same = same

-- what is so where the device failed is so where that is told
device_told : {P Q : Type 0} (fault : Fault) → (P → Q) → OnDeviceFault {T = Option PutOff} (Err fault) P → OnDeviceFault {T = Option PutOff} (Err (told_of fault)) Q
device_told F.DeviceFailed so given = so given
device_told F.HalfFull so given = tt
device_told F.FileFull so given = tt
device_told F.OpenAgain so given = tt
device_told F.OutOfMemory so given = tt

-- a checkpoint that begins has a page at least
first_some : (begun : Option ℕ) (left : ℕ) (standing : List StandingSnapshot) (tables : Lent) → (left ≡ 0) ⊎ (left ≡ left_behind_first begun (pages_of standing tables)) → (left ≡ 0) ⊎ (left_behind_first begun 1 ≤ left)
first_some begun left standing tables (inl none) = inl none
first_some None left standing tables (inr is) = inr (omega (arith, is))
first_some (Some first) left standing tables (inr is) = inr (omega (arith, is))

-- the same of the lengths of what the disks hold
pub grows_so : (present coming : List Bool) (len len_new held held_new : ℕ) → len ≡ held → len_new ≡ held_new → GrowsWhereFull present coming len len_new → GrowsWhereFull present coming held held_new
grows_so present coming len len_new held held_new is is_new grows more page within free = grows (omega (arith, is, is_new, more)) page (omega (arith, is_new, within)) free

-- the same of the lengths of what the disks hold, behind a step
pub log_grows_so : {D : Type 0} (len held : D → ℕ) (old new : Log D TableRules) → len (disk_of old) ≡ held (disk_of old) → len (disk_of new) ≡ held (disk_of new) → Grows len old new → Grows held old new
log_grows_so len held old new is is_new grows =
    record {
      full = grows_so (present_of (free_of new)) (coming_of (free_of new)) (len (disk_of old)) (len (disk_of new)) (held (disk_of old)) (held (disk_of new)) is is_new grows.full;
      rests = λ whole none. by_len (grows.rests whole none);
      ends = λ some few. by_len (grows.ends some few);
      begins = λ none begun. by_len (grows.begins none begun);
    }
  where
    by_len : len (disk_of new) ≡ len (disk_of old) → held (disk_of new) ≡ held (disk_of old)
    by_len same = sym is_new ∙ (same ∙ is)

true_or_false : (b : Bool) → (b ≡ true) ⊎ (b ≡ false)
true_or_false true = inl refl
true_or_false false = inr refl

-- before the last step of a checkpoint the same root is taken
still_present : {D : Type 0} (old new : Log D TableRules) → TakesPages old new → (ticks_left old ≡ 1 → ⊥) → present_of (free_of new) ≡ present_of (free_of old)
still_present old new takes other =
    elim (cases_lt 1 (ticks_left old)) [ inl more ↦ ap present_of (takes.under_way more) | inr few ↦ takes.resting (omega (arith, few, other)) ]

module _ {D : Type 0} (state : D → DiskState) (old new : Log D TableRules) where
  abbrev len_of : Log D TableRules → ℕ
  len_of log = length_on state (disk_of log)

  -- it isn't longer
  pub grown_not : len_of new ≤ len_of old → GrowsInAll state old new
  grown_not short = record { pages = present_of (free_of new); of_root = inl refl; full = λ more. absurd (omega (arith, short, more)) }

  grown_by_coming : AreComing old new → present_of (free_of new) ≡ present_of (free_of old) → Grows (length_on state) old new → GrowsInAll state old new
  grown_by_coming coming same grows = record {
    pages = coming_of (free_of new);
    of_root = inr (refl, coming);
    full = subst (λ (present : List Bool). GrowsWhereFull present (coming_of (free_of new)) (len_of old) (len_of new)) same grows.full;
  }

  -- by a step at most
  pub grown_once : Grows (length_on state) old new → TakesPages old new → GrowsInAll state old new
  grown_once grows takes = elim (cases_eq (ticks_left old) 1) [
    | inl one ↦ let same = grows.ends (omega (arith, one)) (omega (arith, one)) in grown_not (omega (arith, same))
    | inr other ↦
        let present = still_present old new takes other in
        elim (true_or_false (is_broken new)) [
          | inl broken ↦ grown_by_coming (record { under_way = λ whole. let both : true ≡ false = sym broken ∙ whole in absurd (cc both); failed = λ is more. takes.under_way more }) present grows
          | inr whole ↦ elim (cases_lt 0 (ticks_left new)) [
            | inl some ↦ grown_by_coming (record { under_way = λ is. some; failed = λ is more. takes.under_way more }) present grows
            | inr none ↦ let same = grows.rests whole (omega (arith, none)) in grown_not (omega (arith, same))
          ]
        ]
  ]

  -- by a step, and then by those that are left
  module _ (mid : Log D TableRules) (ticked : Grows (length_on state) old mid) (takes : TakesPages old mid) where
    -- as far as they come
    pub grown_so_far : (ticks_left old ≡ 1 → ⊥) → free_of new ≡ free_of mid → (is_broken new ≡ false → ⊥)
        → GrowsWhereFull (present_of (free_of mid)) (coming_of (free_of new)) (len_of mid) (len_of new) → GrowsInAll state old new
    grown_so_far other same broken ended = record {
      pages = coming_of (free_of new);
      of_root = inr (refl, record { under_way = λ whole. absurd (broken whole); failed = λ is more. same ∙ takes.under_way more });
      full = subst (λ (present : List Bool). GrowsWhereFull present (coming_of (free_of new)) (len_of old) (len_of new)) (still_present old mid takes other)
          (grows_on (present_of (free_of mid)) (coming_of (free_of new)) (len_of old) (len_of mid) (len_of new)
          (subst (λ (coming : List Bool). GrowsWhereFull (present_of (free_of mid)) coming (len_of old) (len_of mid)) (ap coming_of (sym same)) ticked.full) ended);
    }

    -- and then not by a second attempt
    pub grown_in_turn : (0 < ticks_left mid → ticks_left old ≡ 1 → ⊥) → is_broken mid ≡ false → (made : Log D TableRules) → (0 < ticks_left mid → AreReclaimed (free_of mid) (free_of made))
        → (ticks_left mid ≡ 0 → made ≡ mid) → GrowsWhereFull (present_of (free_of mid)) (present_of (free_of made)) (len_of mid) (len_of made) → len_of new ≡ len_of made
        → present_of (free_of new) ≡ present_of (free_of made) → GrowsInAll state old new
    grown_in_turn other whole made reclaims idle ended same present = elim (cases_lt 0 (ticks_left mid)) [
      | inl some ↦ record {
        pages = present_of (free_of new);
        of_root = inl refl;
        full =
            let before = still_present old mid takes (other some) in
            grows_to (present_of (free_of old)) (present_of (free_of new)) (len_of old) (len_of made) (len_of new) same
            (grows_told (present_of (free_of mid)) (present_of (free_of made)) (present_of (free_of old)) (present_of (free_of new)) (len_of old) (len_of made) (sym before) present
            (grows_on (present_of (free_of mid)) (present_of (free_of made)) (len_of old) (len_of mid) (len_of made)
            (subst (λ (coming : List Bool). GrowsWhereFull (present_of (free_of mid)) coming (len_of old) (len_of mid)) (sym (reclaims some).present) ticked.full) ended));
      }
      | inr none ↦
          let still = idle (omega (arith, none)) in
          let first = ticked.rests whole (omega (arith, none)) in
          let then : len_of made ≡ len_of mid = ap len_of still in
          grown_not (omega (arith, same, then, first))
    ]

module _ {D : Type 0} (Honest Works : D → Type 0) (state : D → DiskState) (past : D → List DiskState) (faults writes syncs : D → ℕ)
    (tables : Lent) (bytes : List ℕ) where
  abbrev Logs : Type 0
  Logs = Log D TableRules

  -- what one attempt to keep the record does
  pub record Tried (old : Logs) (result : Kept) (new : Logs) : Type 0 where
    pub stops : Honest (disk_of new) → (before behind : words.World) → Takes bytes before behind → HaveSameTexts before behind → AreLentOf table_rules before tables
        → (carries : Carries table_rules old (state (disk_of old)) before)
        → LeavesEither table_files (IsRootAt (ticks_left old) carries.carried.layout carries.carried.holding) (past (disk_of old)) (state (disk_of old)) (past (disk_of new)) (state (disk_of new)) before behind
    pub carries : Honest (disk_of new) → is_broken new ≡ false → (before behind : words.World) → Takes bytes before behind → HaveSameTexts before behind → AreLentOf table_rules before tables
        → Carries table_rules old (state (disk_of old)) before → Carries table_rules new (state (disk_of new)) (world_behind result before behind)
    pub renews : is_broken new ≡ false → ticks_left old ≡ 1 → ticks_left new ≡ 0 → Honest (disk_of new) → (before behind : words.World) → Takes bytes before behind → HaveSameTexts before behind
        → (carries : Carries table_rules old (state (disk_of old)) before)
        → EachImage (state (disk_of new)) (TakesNewer table_files (layout_behind result carries.carried.layout bytes behind) (world_behind result before behind))
    pub roots : is_broken new ≡ false → Honest (disk_of new) → (before behind : words.World) → Takes bytes before behind → HaveSameTexts before behind → AreLentOf table_rules before tables
        → (carries : Carries table_rules old (state (disk_of old)) before) → (then : Carries table_rules new (state (disk_of new)) (world_behind result before behind))
        × KeepsRoots old new (tables_due old.base tables).snapshots carries.carried.layout carries.carried.holding then.carried.layout then.carried.holding
    pub nothing : IfErr result (λ fault. is_broken new ≡ false → ticks_left old ≡ 0 → ticks_left new ≡ 0 → disk_of new ≡ disk_of old)
    pub number : NumberBehind result (next_number old) (next_number new)
    pub again : IsErrOf result F.OpenAgain ↔ IsTrue (is_broken old)
    pub untouched : IsErrOf result F.OpenAgain → new ≡ old
    pub broken : is_broken new ≡ ends_broken result
    pub refused : IfErr result (MayRefuse (place_of new) (length bytes))
    pub full_half : IsErrOf result F.HalfFull → HasNoRoom (place_of old) (length bytes)
    pub makes_room : OnOk result (HasNoRoom (place_of old) (length bytes) → 4 ≤ ticks_left new)
    pub begins_due : IfOk result (BeginsIfDue old new tables)
    pub full_file : IsErrOf result F.FileFull → MeetsFullFile new tables (length bytes)
    pub long : IsErrOf result F.HalfFull → ticks_left old ≡ 0 → (place_of old).begun ≡ None → IsTooLong (length bytes)
    pub resting : IsErrOf result F.HalfFull → ticks_left new ≡ 0 → (place_of new).begun ≡ None
    pub left : is_broken new ≡ false → next_number old + 1 < 2 ^ 63 → 0 < ticks_left old → ticks_left old ≡ ticks_left new + 1
    pub comes : IsErrOf result F.HalfFull → 0 < ticks_left old → ticks_left old ≡ ticks_left new + 1
    pub most : is_broken new ≡ false → ticks_left old ≡ 0 → ticks_left new < ticks_due old tables
    pub rests : ticks_left old ≡ 0 → (IsDue (place_of old) → ⊥) → ticks_left new ≡ 0
    pub begins : is_broken new ≡ false → ticks_left old ≡ 0 → (ticks_left new ≡ 0) ⊎ (ticks_left new ≡ first_left old tables)
    pub device : OnDeviceFault result (Honest (disk_of new) → (world : words.World) → Carries table_rules old (state (disk_of old)) world → Works (disk_of new) → ⊥)
    pub fault : CountsFault (faults (disk_of old)) (faults (disk_of new)) result
    pub few_writes : writes (disk_of new) ≤ writes (disk_of old) + 3
    pub few_syncs : syncs (disk_of new) ≤ syncs (disk_of old) + 3
    pub tick_writes : IsErrOf result F.HalfFull → writes (disk_of new) ≤ writes (disk_of old) + 1
    pub tick_syncs : IsErrOf result F.HalfFull → syncs (disk_of new) ≤ syncs (disk_of old) + 1
    pub own_writes : ticks_left old ≡ 0 → (IsDue (place_of old) → ⊥) → writes (disk_of new) ≤ writes (disk_of old) + 2
    pub own_syncs : ticks_left old ≡ 0 → (IsDue (place_of old) → ⊥) → syncs (disk_of new) ≤ syncs (disk_of old) + 2
    pub grows : Honest (disk_of new) → (world : words.World) → AreLentOf table_rules world tables → Carries table_rules old (state (disk_of old)) world → Grows (length_on state) old new
    pub pages : TakesPages old new
    pub honest : Honest (disk_of new) → Honest (disk_of old)
    pub works : Works (disk_of new) → Works (disk_of old)

  -- what a checkpoint does
  pub record Made (old : Logs) (result : Ended) (new : Logs) : Type 0 where
    pub stops : Honest (disk_of new) → (world : words.World) → AreLentOf table_rules world tables → (carries : Carries table_rules old (state (disk_of old)) world)
        → LeavesKept table_files (IsRootWithin old (tables_due old.base tables).snapshots carries.carried.layout carries.carried.holding) (past (disk_of old)) (state (disk_of old)) (past (disk_of new)) (state (disk_of new)) world
    pub carries : Honest (disk_of new) → is_broken new ≡ false → (world : words.World) → AreLentOf table_rules world tables
        → Carries table_rules old (state (disk_of old)) world → Carries table_rules new (state (disk_of new)) world
    pub names : OnOk result (Honest (disk_of new) → (world : words.World) → AreLentOf table_rules world tables → (kit : Kit) → KeepsNames kit state old world new world)
    pub number : next_number new ≡ next_number old
    pub again : IsErrOf result F.OpenAgain ↔ IsTrue (is_broken old)
    pub broken : is_broken new ≡ ends_broken result
    pub left : OnOk result (ticks_left new ≡ 0)
    pub rests : OnOk result ((place_of new).begun ≡ None)
    pub half : (place_of new).half ≡ (place_of old).half
    pub first : IfErr result (λ fault. IsWant fault → ticks_left old ≡ 0)
    pub room : IsErrOf result F.HalfFull → ⊥
    pub idle : ticks_left old ≡ 0 → new ≡ old
    pub fault : CountsFault (faults (disk_of old)) (faults (disk_of new)) result
    pub all_writes : writes (disk_of new) ≤ writes (disk_of old) + ticks_left old
    pub all_syncs : syncs (disk_of new) ≤ syncs (disk_of old) + ticks_left old
    pub grows : OnOk result (Honest (disk_of new) → (world : words.World) → AreLentOf table_rules world tables → Carries table_rules old (state (disk_of old)) world
        → GrowsWhereFull (present_of (free_of old)) (present_of (free_of new)) (length_on state (disk_of old)) (length_on state (disk_of new)))
    pub grows_so_far : OnErr result (Honest (disk_of new) → (world : words.World) → AreLentOf table_rules world tables → Carries table_rules old (state (disk_of old)) world
        → GrowsWhereFull (present_of (free_of old)) (coming_of (free_of new)) (length_on state (disk_of old)) (length_on state (disk_of new)))
    pub reclaims : OnOk result (0 < ticks_left old → AreReclaimed (free_of old) (free_of new))
    pub same_free : OnErr result (0 < ticks_left old → free_of new ≡ free_of old)
    pub honest : Honest (disk_of new) → Honest (disk_of old)
    pub works : Works (disk_of new) → Works (disk_of old)
    pub device : OnDeviceFault result (Honest (disk_of new) → (world : words.World) → AreLentOf table_rules world tables → Carries table_rules old (state (disk_of old)) world
        → Works (disk_of new) → ⊥)

  abbrev pub Done : Logs → Kept → Logs → Type 0
  Done old result new = Keeping Honest Works state past faults writes syncs old tables bytes result new

  -- a stop leaves what was kept, or what is kept behind the record
  abbrev LeavesKeeping : Logs → Logs → words.World → words.World → Type 0
  LeavesKeeping old new before behind =
      LeavesOnly (past (disk_of old)) (state (disk_of old)) (past (disk_of new)) (state (disk_of new)) (λ image. Keeps table_files image before ⊎ Keeps table_files image behind)

  -- with a root that names what its tables are to have
  abbrev LeavesNamed : Kit → Logs → Logs → words.World → words.World → Type 0
  LeavesNamed kit old new before behind =
      LeavesEither table_files (IsNamed kit) (past (disk_of old)) (state (disk_of old)) (past (disk_of new)) (state (disk_of new)) before behind

  tried_kept : (old : Logs) (result : Kept) (new : Logs) → Tried old result new → Honest (disk_of new) → (before behind : words.World) → Takes bytes before behind → AreLentOf table_rules before tables
      → Carries table_rules old (state (disk_of old)) before → LeavesKeeping old new before behind
  tried_kept old result new t h before behind takes lent carries =
      either_kept table_files before behind (IsRootAt (ticks_left old) carries.carried.layout carries.carried.holding) (t.stops h before behind takes (same_texts bytes before behind takes) lent carries)

  tried_named : (old : Logs) (result : Kept) (new : Logs) → Tried old result new → Honest (disk_of new) → (kit : Kit) (before behind : words.World) → Takes bytes before behind → AreLentOf table_rules before tables
      → (ticks_left old ≡ 0 → AreTheirSnapshots kit before tables.snapshots) → NamesRoots kit old (state (disk_of old)) before → LeavesNamed kit old new before behind
  tried_named old result new t h kit before behind takes lent named roots =
      let carried = roots.names.carries.carried in
      either_under table_files before behind (IsRootAt (ticks_left old) carried.layout carried.holding) (IsNamed kit)
      (λ layout is. named_within kit state old new before before tables named roots layout (within_step layout is))
      (t.stops h before behind takes (same_texts bytes before behind takes) lent roots.names.carries)

  made_kept : (old : Logs) (result : Ended) (new : Logs) → Made old result new → Honest (disk_of new) → (before behind : words.World) → AreLentOf table_rules before tables
      → Carries table_rules old (state (disk_of old)) before → LeavesKeeping old new before behind
  made_kept old result new m h before behind lent carries =
      weaker (m.stops h before lent carries) (λ image. Keeps table_files image before ⊎ Keeps table_files image behind) (λ image left. inl (record { layout = left.layout; kept = left.kept }))

  made_named : (old : Logs) (result : Ended) (new : Logs) → Made old result new → Honest (disk_of new) → (kit : Kit) (before behind : words.World) → AreLentOf table_rules before tables
      → AreTheirSnapshots kit before tables.snapshots → NamesRoots kit old (state (disk_of old)) before → LeavesNamed kit old new before behind
  made_named old result new m h kit before behind lent named roots =
      weaker (m.stops h before lent roots.names.carries) (λ image. KeepsUnder table_files (IsNamed kit) image before ⊎ KeepsUnder table_files (IsNamed kit) image behind)
      (λ image left. inl (record { layout = left.layout; kept = left.kept; is_root = named_within kit state old new before before tables (λ rests. named) roots left.layout left.is_root }))

  named_now : (log : Logs) (kit : Kit) (before behind : words.World) → NamesRoots kit log (state (disk_of log)) before → LeavesNamed kit log log before behind
  named_now log kit before behind roots =
      let carried = roots.names.carries.carried in
      started (past (disk_of log)) (state (disk_of log)) (λ image. KeepsUnder table_files (IsNamed kit) image before ⊎ KeepsUnder table_files (IsNamed kit) image behind)
      (λ image is. inl (record { layout = carried.layout; kept = carried.between.each image is; is_root = roots.taken }))

  kept_now : (log : Logs) (before behind : words.World) → Carries table_rules log (state (disk_of log)) before → LeavesKeeping log log before behind
  kept_now log before behind carries =
      started (past (disk_of log)) (state (disk_of log)) (λ image. Keeps table_files image before ⊎ Keeps table_files image behind)
      (λ image is. inl (carried_kept table_files log.writer.file log.writer.checkpoint (state (disk_of log)) before carries.carried image is))

  -- without a checkpoint under way none is ended
  pub none_made : (log : Logs) → is_broken log ≡ false → ticks_left log ≡ 0 → (place_of log).begun ≡ None → Made log (Ok tt) log
  none_made log whole left rests =
      record {
        stops = λ h world lent carries.
            let carried = carries.carried in
            let IsRoot : Layout table_files → Type 0 = IsRootWithin log (tables_due log.base tables).snapshots carried.layout carried.holding in
            started (past (disk_of log)) (state (disk_of log)) (λ image. KeepsUnder table_files IsRoot image world)
            (λ image is. record { layout = carried.layout; kept = carried.between.each image is; is_root = inl (still_root carried.layout) });
        carries = λ h still world lent carries. carries;
        names = λ h world lent kit. names_still kit state log world;
        number = refl;
        again = (λ is. absurd (cc is), λ broken. let both : true ≡ false = sym broken ∙ whole in absurd (cc both));
        broken = whole;
        left = left;
        rests = rests;
        half = refl;
        first = tt;
        room = λ is. absurd (cc is);
        idle = λ none. refl;
        fault = refl;
        all_writes = omega arith;
        all_syncs = omega arith;
        grows = λ h world lent carries more. absurd (omega (arith, more));
        grows_so_far = tt;
        reclaims = λ some. absurd (omega (arith, some, left));
        same_free = tt;
        honest = λ h. h;
        works = λ w. w;
        device = tt;
      }

  -- so few calls are among the most
  few_at_most : (calls : D → ℕ) (old new : Logs) → calls (disk_of new) ≤ calls (disk_of old) + 3 → MakesAtMost calls tables old new
  few_at_most calls old new few = record { under_way = λ some. omega (arith, few); begun = λ none. omega (arith, few) }

  -- nothing is tried for want of memory, or on a broken file
  pub keeps_nothing : (log : Logs) → is_broken log ≡ false → Done log (Err F.OutOfMemory) log
  keeps_nothing log whole =
      record {
        honest = λ h. h;
        stops = λ h before behind takes lent carries. kept_now log before behind carries;
        carries = λ h still before behind takes lent carries. carries;
        renews = λ still one none h before behind takes carries. absurd (omega (arith, one, none));
        names = λ h still kit before behind takes lent named. names_still kit state log before;
        names_stops = λ h kit before behind takes lent named roots. named_now log kit before behind roots;
        renews_names = λ h still one none kit before behind takes lent names. absurd (omega (arith, one, none));
        number = refl;
        again = (λ is. absurd (cc is), λ broken. let both : true ≡ false = sym broken ∙ whole in absurd (cc both));
        untouched = λ is. absurd (cc is);
        broken = whole;
        full = λ is. absurd (cc is);
        room = λ is. absurd (cc is);
        memory = λ is. inl refl;
        counts = refl;
        works = λ w. w;
        device = tt;
        few_writes = λ room. omega arith;
        few_syncs = λ room. omega arith;
        own_writes = λ room rests. omega arith;
        own_syncs = λ room rests. omega arith;
        most_writes = few_at_most writes log log (omega arith);
        most_syncs = few_at_most syncs log log (omega arith);
        comes_on = tt;
        makes_room = tt;
        begins_due = tt;
        grows = λ room h world lent carries. stays_long (length_on state) log log refl;
        pages = λ room. pages_still log log refl (λ one none whole. omega (arith, one, none));
        grows_in_all = λ h before behind takes lent carries. grown_not state log log (omega arith);
      }

  pub keeps_again : (log : Logs) → is_broken log ≡ true → Done log (Err F.OpenAgain) log
  keeps_again log broken =
      record {
        honest = λ h. h;
        stops = λ h before behind takes lent carries. kept_now log before behind carries;
        carries = λ h still before behind takes lent carries. carries;
        renews = λ still one none h before behind takes carries. absurd (omega (arith, one, none));
        names = λ h still kit before behind takes lent named. names_still kit state log before;
        names_stops = λ h kit before behind takes lent named roots. named_now log kit before behind roots;
        renews_names = λ h still one none kit before behind takes lent names. absurd (omega (arith, one, none));
        number = refl;
        again = (λ is. broken, λ was. refl);
        untouched = λ is. refl;
        broken = broken;
        full = λ is. absurd (cc is);
        room = λ is. absurd (cc is);
        memory = λ is. absurd (cc is);
        counts = refl;
        works = λ w. w;
        device = tt;
        few_writes = λ room. omega arith;
        few_syncs = λ room. omega arith;
        own_writes = λ room rests. omega arith;
        own_syncs = λ room rests. omega arith;
        most_writes = few_at_most writes log log (omega arith);
        most_syncs = few_at_most syncs log log (omega arith);
        comes_on = tt;
        makes_room = tt;
        begins_due = tt;
        grows = λ room h world lent carries. stays_long (length_on state) log log refl;
        pages = λ room. pages_still log log refl (λ one none whole. omega (arith, one, none));
        grows_in_all = λ h before behind takes lent carries. grown_not state log log (omega arith);
      }

  -- where there was room and a number
  comes_on : (old new : Logs) (result : Kept) → Tried old result new → OnOk result ((IsFull old bytes → ⊥) → ComesOn old new)
  comes_on old new (Err fault) t = tt
  comes_on old new (Ok value) t = λ room.
      let numbered : next_number old + 1 < 2 ^ 63 = let below : IsPastLast (next_number old) → ⊥ = λ past. room (inr past) in omega (arith, below) in
      record {
        left = t.left t.broken numbered;
        begins = λ none. first_some (place_of old).begun (ticks_left new) old.standing.items (tables_due old.base tables) (t.begins t.broken none);
        rests = λ rests. t.rests rests.none_left rests.none_due;
      }

  -- one attempt that isn't told of a full half
  pub kept_once : (old new : Logs) (result : Kept) → (IsErrOf result F.HalfFull → ⊥) → Tried old result new → Done old result new
  kept_once old new result room t =
      record {
        honest = t.honest;
        stops = tried_kept old result new t;
        carries = λ h whole before behind takes lent carries. t.carries h whole before behind takes (same_texts bytes before behind takes) lent carries;
        renews = λ whole one none h before behind takes carries. t.renews whole one none h before behind takes (same_texts bytes before behind takes) carries;
        names = λ h whole kit before behind takes lent named.
            keeps_names kit state old new before (world_behind result before behind) tables (t.roots whole h before behind takes (same_texts bytes before behind takes) lent)
            (λ rests. named (inl rests));
        names_stops = λ h kit before behind takes lent named roots. tried_named old result new t h kit before behind takes lent (λ rests. named (inl rests)) roots;
        renews_names = λ h whole one none kit before behind takes lent names.
            renews_names kit state old new before (world_behind result before behind) tables (t.roots whole h before behind takes (same_texts bytes before behind takes) lent) one none names;
        number = t.number;
        again = t.again;
        untouched = t.untouched;
        broken = t.broken;
        full = λ is. inr (t.full_file is);
        room = room;
        memory = λ is. inr (subst (λ (r : Kept). IfErr r (MayRefuse (place_of new) (length bytes))) is t.refused);
        counts = t.fault;
        works = t.works;
        device = device_more result (λ device h before behind takes lent carries. device h before carries) t.device;
        few_writes = λ room. t.few_writes;
        few_syncs = λ room. t.few_syncs;
        own_writes = λ room rests. t.own_writes rests.none_left rests.none_due;
        own_syncs = λ room rests. t.own_syncs rests.none_left rests.none_due;
        most_writes = few_at_most writes old new t.few_writes;
        most_syncs = few_at_most syncs old new t.few_syncs;
        comes_on = comes_on old new result t;
        makes_room = t.makes_room;
        begins_due = t.begins_due;
        grows = λ room. t.grows;
        pages = λ room. t.pages;
        grows_in_all = λ h before behind takes lent carries. grown_once state old new (t.grows h before lent carries) t.pages;
      }

  module _ (old mid : Logs) (t : Tried old (Err F.HalfFull) mid) where
    never_again : {A : Type 0} → IsTrue (is_broken old) → A
    never_again broken = absurd (let is = t.again.1 broken in cc is)

    has_none : {A : Type 0} → (IsFull old bytes → ⊥) → A
    has_none room = absurd (room (inl (t.full_half refl)))

    carried : Honest (disk_of mid) → (before behind : words.World) → Takes bytes before behind → AreLentOf table_rules before tables
        → Carries table_rules old (state (disk_of old)) before → Carries table_rules mid (state (disk_of mid)) before
    carried h before behind takes lent carries = t.carries h t.broken before behind takes (same_texts bytes before behind takes) lent carries

    names_before : Honest (disk_of mid) → (kit : Kit) (before behind : words.World) → Takes bytes before behind → AreLentOf table_rules before tables → AreTheirSnapshots kit before tables.snapshots
        → KeepsNames kit state old before mid before
    names_before h kit before behind takes lent named =
        keeps_names kit state old mid before before tables (t.roots t.broken h before behind takes (same_texts bytes before behind takes) lent) (λ rests. named)

    -- one tick, all that are then left, and a second attempt
    in_all : (calls : D → ℕ) (made new : Logs) → calls (disk_of mid) ≤ calls (disk_of old) + 1 → calls (disk_of made) ≤ calls (disk_of mid) + ticks_left mid → calls (disk_of new) ≤ calls (disk_of made) + 3
        → MakesAtMost calls tables old new
    in_all calls made new tick all again =
        record {
          under_way = λ some. let one = t.comes refl some in omega (arith, tick, all, again, one);
          begun = λ none. let most = t.most t.broken none in omega (arith, tick, all, again, most);
        }

    -- where steps are left behind its tick, that wasn't the last
    not_last : 0 < ticks_left mid → ticks_left old ≡ 1 → ⊥
    not_last some one = let left = t.comes refl (omega (arith, one)) in omega (arith, some, one, left)

    never_whole : (fault : Fault) (new : Logs) → 0 < ticks_left mid → Made mid (Err fault) new → is_broken new ≡ false → ⊥
    never_whole F.DeviceFailed new some m whole = let both : true ≡ false = sym m.broken ∙ whole in cc both
    never_whole F.HalfFull new some m whole = m.room refl
    never_whole F.FileFull new some m whole = let none = m.first (inl refl) in omega (arith, some, none)
    never_whole F.OpenAgain new some m whole = let both : true ≡ false = sym m.broken ∙ whole in cc both
    never_whole F.OutOfMemory new some m whole = let none = m.first (inr refl) in omega (arith, some, none)

    told : (fault : Fault) (new : Logs) → 0 < ticks_left mid → Made mid (Err fault) new → (fault ≡ F.OpenAgain → ⊥) × (fault ≡ F.FileFull → ⊥)
    told F.DeviceFailed new some m = (λ is. cc is, λ is. cc is)
    told F.HalfFull new some m = (λ is. cc is, λ is. cc is)
    told F.FileFull new some m = (λ is. cc is, λ is. let none = m.first (inl refl) in omega (arith, some, none))
    told F.OpenAgain new some m = (λ is. let both : true ≡ false = sym (m.again.0 refl) ∙ t.broken in cc both, λ is. cc is)
    told F.OutOfMemory new some m = (λ is. cc is, λ is. cc is)

    -- the checkpoint under way can't be ended
    pub kept_without : (fault : Fault) (new : Logs) → 0 < ticks_left mid → Made mid (Err fault) new → Done old (Err fault) new
    kept_without fault new some m =
        record {
          honest = λ h. t.honest (m.honest h);
          stops = λ h before behind takes lent carries.
              joins (tried_kept old (Err F.HalfFull) mid t (m.honest h) before behind takes lent carries)
              (made_kept mid (Err fault) new m h before behind lent (carried (m.honest h) before behind takes lent carries));
          carries = λ h whole before behind takes lent carries. m.carries h whole before lent (carried (m.honest h) before behind takes lent carries);
          renews = λ whole one none h before behind takes carries. absurd (never_whole fault new some m whole);
          names = λ h whole kit before behind takes lent named. absurd (never_whole fault new some m whole);
          names_stops = λ h kit before behind takes lent named roots.
              let is_named = named (inr (inl (t.full_half refl))) in
              joins (tried_named old (Err F.HalfFull) mid t (m.honest h) kit before behind takes lent (λ rests. is_named) roots)
              (made_named mid (Err fault) new m h kit before behind lent is_named ((names_before (m.honest h) kit before behind takes lent is_named).roots roots));
          renews_names = λ h whole one none kit before behind takes lent names. absurd (never_whole fault new some m whole);
          number = number_same fault (next_number old) (next_number new) (m.number ∙ t.number);
          again = (λ is. absurd (same_fault is), λ broken. never_again broken);
          untouched = λ is. absurd (same_fault is);
          broken = m.broken;
          full = λ is. absurd ((told fault new some m).1 (let same : fault ≡ F.FileFull = cc is in same));
          room = λ is. m.room (let same : fault ≡ F.HalfFull = cc is in ap (λ (f : Fault). Err f) same);
          memory = λ is. let same : fault ≡ F.OutOfMemory = cc is in let none = m.first (inr same) in absurd (omega (arith, some, none));
          counts = subst (λ (n : ℕ). CountsFault {T = Option PutOff} n (faults (disk_of new)) (Err fault)) t.fault m.fault;
          works = λ w. t.works (m.works w);
          device = device_more {T = Option PutOff} (Err fault) (λ device h before behind takes lent carries. device h before lent (carried (m.honest h) before behind takes lent carries)) m.device;
          few_writes = λ room. has_none room;
          few_syncs = λ room. has_none room;
          own_writes = λ room rests. has_none room;
          own_syncs = λ room rests. has_none room;
          most_writes = in_all writes new new (t.tick_writes refl) m.all_writes (omega arith);
          most_syncs = in_all syncs new new (t.tick_syncs refl) m.all_syncs (omega arith);
          comes_on = tt;
          makes_room = tt;
          begins_due = tt;
          grows = λ room. has_none room;
          pages = λ room. has_none room;
          grows_in_all = λ h before behind takes lent carries.
              grown_so_far state old new mid (t.grows (m.honest h) before lent carries) t.pages (not_last some) (m.same_free some) (never_whole fault new some m)
              (m.grows_so_far h before lent (carried (m.honest h) before behind takes lent carries));
        }
      where
        same_fault : IsErrOf {T = Option PutOff} (Err fault) F.OpenAgain → ⊥
        same_fault is = (told fault new some m).0 (let same : fault ≡ F.OpenAgain = cc is in same)

    module _ (made new : Logs) (m : Made mid (Ok tt) made) where
      stops_by : (result : Kept) → Tried made result new → Honest (disk_of new) → (before behind : words.World) → Takes bytes before behind → AreLentOf table_rules before tables
          → Carries table_rules old (state (disk_of old)) before → LeavesKeeping old new before behind
      stops_by result again h before behind takes lent carries =
          let then = again.honest h in
          let there = carried (m.honest then) before behind takes lent carries in
          joins
          (joins (tried_kept old (Err F.HalfFull) mid t (m.honest then) before behind takes lent carries) (made_kept mid (Ok tt) made m then before behind lent there))
          (tried_kept made result new again h before behind takes lent (m.carries then m.broken before lent there))

      carries_by : (result : Kept) → Tried made result new → Honest (disk_of new) → is_broken new ≡ false → (before behind : words.World) → Takes bytes before behind → AreLentOf table_rules before tables
          → Carries table_rules old (state (disk_of old)) before → Carries table_rules new (state (disk_of new)) (world_behind result before behind)
      carries_by result again h whole before behind takes lent carries =
          let then = again.honest h in
          again.carries h whole before behind takes (same_texts bytes before behind takes) lent
          (m.carries then m.broken before lent (carried (m.honest then) before behind takes lent carries))

      names_by : (result : Kept) → Tried made result new → Honest (disk_of new) → is_broken new ≡ false → (kit : Kit) (before behind : words.World) → Takes bytes before behind
          → AreLentOf table_rules before tables → ((ticks_left old ≡ 0) ⊎ IsFull old bytes → AreTheirSnapshots kit before tables.snapshots)
          → KeepsNames kit state old before new (world_behind result before behind)
      names_by result again h whole kit before behind takes lent named =
          let then = again.honest h in
          let is_named = named (inr (inl (t.full_half refl))) in
          let ended = names_on kit state old mid made before before before (names_before (m.honest then) kit before behind takes lent is_named) (m.names then before lent kit) in
          let second = keeps_names kit state made new before (world_behind result before behind) tables
          (again.roots whole h before behind takes (same_texts bytes before behind takes) lent) (λ rests. is_named) in
          names_on kit state old made new before before (world_behind result before behind) ended second

      names_stops_by : (result : Kept) → Tried made result new → Honest (disk_of new) → (kit : Kit) (before behind : words.World) → Takes bytes before behind → AreLentOf table_rules before tables
          → ((ticks_left old ≡ 0) ⊎ IsFull old bytes → AreTheirSnapshots kit before tables.snapshots) → NamesRoots kit old (state (disk_of old)) before → LeavesNamed kit old new before behind
      names_stops_by result again h kit before behind takes lent named roots =
          let then = again.honest h in
          let is_named = named (inr (inl (t.full_half refl))) in
          let first = (names_before (m.honest then) kit before behind takes lent is_named).roots roots in
          joins
          (joins (tried_named old (Err F.HalfFull) mid t (m.honest then) kit before behind takes lent (λ rests. is_named) roots) (made_named mid (Ok tt) made m then kit before behind lent is_named first))
          (tried_named made result new again h kit before behind takes lent (λ rests. is_named) ((m.names then before lent kit).roots first))

      grows_by : (result : Kept) → Tried made result new → Honest (disk_of new) → (before behind : words.World) → Takes bytes before behind → AreLentOf table_rules before tables
          → Carries table_rules old (state (disk_of old)) before → GrowsInAll state old new
      grows_by result again h before behind takes lent carries =
          let then = again.honest h in
          let there = carried (m.honest then) before behind takes lent carries in
          let second = again.grows h before lent (m.carries then m.broken before lent there) in
          grown_in_turn state old new mid (t.grows (m.honest then) before lent carries) t.pages not_last t.broken made m.reclaims m.idle
          (m.grows then before lent there) (second.begins m.left m.rests) (again.pages.resting m.left)

      same_number : next_number made ≡ next_number old
      same_number = m.number ∙ t.number

      same_count : faults (disk_of made) ≡ faults (disk_of old)
      same_count = m.fault ∙ t.fault

      -- a record that is kept then stands behind the first step of another checkpoint
      begins_another : (put_off : Option PutOff) → Tried made (Ok put_off) new → 4 ≤ ticks_left new
      begins_another put_off again = again.makes_room (λ room. t.refused (subst (λ (half : Half). HasRoom half.next_slot (length bytes)) m.half room))

      -- so nothing was put off
      begun_at_last : (put_off : Option PutOff) → BeginsIfDue made new tables put_off → 4 ≤ ticks_left new → BeginsIfDue old new tables put_off
      begun_at_last None begins some = record { due = λ _ _. omega (arith, some); only = λ is. absurd (cc is) }
      begun_at_last (Some P.FileFull) begins some =
          let due = begins.only refl in
          let put_off = begins.due due.0 due.1 in
          let none = put_off.0 in
          absurd (omega (arith, none, some))
      begun_at_last (Some P.OutOfMemory) begins some =
          let due = begins.only refl in
          let none = begins.due due.0 due.1 in
          absurd (omega (arith, none, some))

      -- and where it is refused behind the last tick the disk is as that left it
      renews_still : (fault : Fault) → Tried made (Err fault) new → is_broken new ≡ false → ticks_left old ≡ 1 → ticks_left new ≡ 0 → Honest (disk_of new) → (before behind : words.World) → Takes bytes before behind
          → (carries : Carries table_rules old (state (disk_of old)) before) → EachImage (state (disk_of new)) (TakesNewer table_files carries.carried.layout before)
      renews_still fault again whole one none h before behind takes carries =
          let left = t.comes refl (omega (arith, one)) in
          let rested : ticks_left mid ≡ 0 = omega (arith, one, left) in
          let same = again.nothing whole m.left none ∙ ap (λ (log : Logs). disk_of log) (m.idle rested) in
          subst (λ (disk : D). EachImage (state disk) (TakesNewer table_files carries.carried.layout before)) (sym same)
          (t.renews t.broken one rested (m.honest (again.honest h)) before behind takes (same_texts bytes before behind takes) carries)

      renews_names_still : (fault : Fault) → Tried made (Err fault) new → Honest (disk_of new) → is_broken new ≡ false → ticks_left old ≡ 1 → ticks_left new ≡ 0 → (kit : Kit) (before behind : words.World)
          → Takes bytes before behind → AreLentOf table_rules before tables → NamesComing kit old (state (disk_of old)) before → NamesRoots kit new (state (disk_of new)) before
      renews_names_still fault again h whole one none kit before behind takes lent names =
          let then = again.honest h in
          let texts = same_texts bytes before behind takes in
          let left = t.comes refl (omega (arith, one)) in
          let first = renews_names kit state old mid before before tables (t.roots t.broken (m.honest then) before behind takes texts lent) one (omega (arith, one, left)) names in
          rests_named kit state made new before before tables (again.roots whole h before behind takes texts lent) m.left none ((m.names then before lent kit).roots first)

      -- a second attempt
      pub kept_twice : (put_off : Option PutOff) → Tried made (Ok put_off) new → Done old (Ok put_off) new
      kept_twice put_off again =
          record {
            honest = λ h. t.honest (m.honest (again.honest h));
            stops = stops_by (Ok put_off) again;
            carries = carries_by (Ok put_off) again;
            renews = λ whole one none h before behind takes carries. let some = begins_another put_off again in absurd (omega (arith, none, some));
            names = names_by (Ok put_off) again;
            names_stops = names_stops_by (Ok put_off) again;
            renews_names = λ h whole one none kit before behind takes lent names. let some = begins_another put_off again in absurd (omega (arith, none, some));
            number = subst (λ (n : ℕ). next_number new ≡ n + 1) same_number again.number;
            again = (λ is. absurd (cc is), λ broken. never_again broken);
            untouched = λ is. absurd (cc is);
            broken = again.broken;
            full = λ is. absurd (cc is);
            room = λ is. absurd (cc is);
            memory = λ is. absurd (cc is);
            counts = again.fault ∙ same_count;
            works = λ w. t.works (m.works (again.works w));
            device = tt;
            few_writes = λ room. has_none room;
            few_syncs = λ room. has_none room;
            own_writes = λ room rests. has_none room;
            own_syncs = λ room rests. has_none room;
            most_writes = in_all writes made new (t.tick_writes refl) m.all_writes again.few_writes;
            most_syncs = in_all syncs made new (t.tick_syncs refl) m.all_syncs again.few_syncs;
            comes_on = λ room. has_none room;
            makes_room = λ none. begins_another put_off again;
            begins_due = begun_at_last put_off again.begins_due (begins_another put_off again);
            grows = λ room. has_none room;
            pages = λ room. has_none room;
            grows_in_all = grows_by (Ok put_off) again;
          }

      -- one that isn't kept either
      refused_by : (fault : Fault) → Tried made (Err fault) new
          → ((told_of fault ≡ F.OpenAgain) → ⊥) × ((told_of fault ≡ F.HalfFull) → ⊥) × (told_of fault ≡ F.FileFull → IsTooLong (length bytes) ⊎ MeetsFullFile new tables (length bytes))
          × (ends_broken {T = Option PutOff} (Err fault) ≡ ends_broken {T = Option PutOff} (Err (told_of fault)))
          × NumberBehind {T = Option PutOff} (Err (told_of fault)) (next_number made) (next_number new)
          × CountsFault {T = Option PutOff} (faults (disk_of made)) (faults (disk_of new)) (Err (told_of fault))
      refused_by F.DeviceFailed again = (λ is. cc is, λ is. cc is, λ is. absurd (cc is), refl, again.number, again.fault)
      refused_by F.HalfFull again = (λ is. cc is, λ is. cc is, λ is. inl (again.long refl m.left m.rests), refl, again.number, again.fault)
      refused_by F.FileFull again = (λ is. cc is, λ is. cc is, λ is. inr (again.full_file refl), refl, again.number, again.fault)
      refused_by F.OpenAgain again = (λ is. let both : true ≡ false = sym (again.again.0 refl) ∙ m.broken in cc both, λ is. cc is, λ is. absurd (cc is), refl, again.number, again.fault)
      refused_by F.OutOfMemory again = (λ is. cc is, λ is. cc is, λ is. absurd (cc is), refl, again.number, again.fault)

      wants_by : (fault : Fault) → Tried made (Err fault) new → told_of fault ≡ F.OutOfMemory → HasNoRoom (place_of new) (length bytes)
      wants_by F.DeviceFailed again is = absurd (cc is)
      wants_by F.HalfFull again is = absurd (cc is)
      wants_by F.FileFull again is = absurd (cc is)
      wants_by F.OpenAgain again is = absurd (cc is)
      wants_by F.OutOfMemory again is = again.refused

      pub kept_never : (fault : Fault) → Tried made (Err fault) new → Done old (Err (told_of fault)) new
      kept_never fault again =
          let so = refused_by fault again in
          record {
            honest = λ h. t.honest (m.honest (again.honest h));
            stops = stops_by (Err fault) again;
            carries = carries_by (Err fault) again;
            renews = renews_still fault again;
            names = names_by (Err fault) again;
            names_stops = names_stops_by (Err fault) again;
            renews_names = renews_names_still fault again;
            number = subst (λ (n : ℕ). NumberBehind {T = Option PutOff} (Err (told_of fault)) n (next_number new)) same_number so.4;
            again = (λ is. absurd (so.0 (let same : told_of fault ≡ F.OpenAgain = cc is in same)), λ broken. never_again broken);
            untouched = λ is. absurd (so.0 (let same : told_of fault ≡ F.OpenAgain = cc is in same));
            broken = again.broken ∙ so.3;
            full = λ is. so.2 (let same : told_of fault ≡ F.FileFull = cc is in same);
            room = λ is. so.1 (let same : told_of fault ≡ F.HalfFull = cc is in same);
            memory = λ is. inr (wants_by fault again (let same : told_of fault ≡ F.OutOfMemory = cc is in same));
            counts = subst (λ (n : ℕ). CountsFault {T = Option PutOff} n (faults (disk_of new)) (Err (told_of fault))) same_count so.5;
            works = λ w. t.works (m.works (again.works w));
            device = device_told fault
                (λ device h before behind takes lent carries.
                let then = again.honest h in
                device h before (m.carries then m.broken before lent (carried (m.honest then) before behind takes lent carries)))
                again.device;
            few_writes = λ room. has_none room;
            few_syncs = λ room. has_none room;
            own_writes = λ room rests. has_none room;
            own_syncs = λ room rests. has_none room;
            most_writes = in_all writes made new (t.tick_writes refl) m.all_writes again.few_writes;
            most_syncs = in_all syncs made new (t.tick_syncs refl) m.all_syncs again.few_syncs;
            comes_on = tt;
            makes_room = tt;
            begins_due = tt;
            grows = λ room. has_none room;
            pages = λ room. has_none room;
            grows_in_all = grows_by (Err fault) again;
          }
