-- How many commands were played for what was recovered of a file.
use Rattle.std.proofs.Common.{◌≡◌, ℕ, ◌+◌, ◌*◌, ◌^◌, ◌<◌, ◌≤◌, List, ◌++◌, length, sym, ap, subst, length-append, arith}
use Rattle.rr_kit.specs.declared.kit.Kit.{Kit}
use Rattle.rr_log.proofs.OpeningLemmas.Places.{few_lines}
use Rattle.rr_pages.specs.declared.journal.layout.HalfIndex.{HalfIndex}
use Rattle.rr_pages.specs.declared.journal.layout.TheConstants.{LAST_SLOT}
use Rattle.rr_pages.specs.declared.journal.reading.RunEnd.{RunEnd}
use Rattle.rr_pages.specs.Journal.Run.{Run}
use Rattle.rr_pages.proofs.JournalLemmas.Runs.{run_fits}
use Rattle.rr_reading.specs.declared.dir.directory.TheConstants.{MOST_TABLES}
use Rattle.rr_reading.specs.Held.{Held}
use Rattle.rr_reading.specs.Reading.{Holds}
use Rattle.rr_tables.specs.declared.tables.Tables.{Tables}
use Rattle.rr_tables.specs.Records.Words.{in_words}
use Rattle.rr_tables.specs.Tables.{ArePlayed, HaveTheirSnapshots, world_of}
use Rattle.rr_store.specs.declared.recovery.plays.Restored.{Restored}
use Rattle.rr_store.specs.Files.{StandsFor}
use Rattle.rr_store.specs.Recovery.Base.{IsOfDirectory, IsRightBase, Named, ShowsThem, named_of}
use Rattle.rr_store.specs.Recovery.Recovered.{IsRestored}
use Rattle.rr_store.specs.Recovery.Telling.{HasTrueSnapshots}
use Rattle.rr_store.specs.Replayed.{IsReplayed, PlaysRecords, PlaysTables, counts_at, counts_named}
use Rattle.rr_store.specs.World.{World}
use Rattle.rr_kit.specs.Kits.{KitTexts}
use Rattle.rr_store.proofs.Trusting.{standing_true}
use Rattle.rr_store.proofs.RecoveryLemmas.BaseLemmas.{banked_world, each_snapshot, told_base}
use Rattle.rr_store.proofs.RecoveryLemmas.PlaysLemmas.{counts_same, few_records}
use Rattle.rr_store.proofs.RecoveryLemmas.Recovered.{PlaysThem, base_played, right_read, shows_them}

-- so many commands are played of the tables before the records, where the snapshots show their play
abbrev pub PlaysSo : Named → Tables → ℕ → Type 0
PlaysSo named tables plays = ShowsThem tables.kit named (world_of tables) → PlaysTables tables.kit (counts_named named) 0 (world_of tables) plays

-- a half has few records
few_in : (file : List ℕ) (half : HalfIndex) (number : ℕ) (lines : List (List ℕ)) (end : RunEnd) → Run file half 0 number lines end → length lines ≤ LAST_SLOT
few_in file half number lines end run = omega (arith, run_fits file half 0 number lines end (omega arith) run, few_lines lines)

module _ (file : List ℕ) (has : Held) (holds : Holds file has) where
  -- what was restored of a root that names this
  pub restored_of : (named : Named) (restored : Restored Tables) → named ≡ named_of has → (IsOfDirectory named → IsRightBase named has.texts restored.value.kit (world_of restored.value)) → PlaysThem named restored.value
      → HaveTheirSnapshots restored.value → PlaysSo named restored.value restored.plays → restored.plays ≤ MOST_TABLES * 2 ^ 33 → IsRestored has restored
  restored_of named restored same right played snapshots counted few =
      record {
        right = right_read file has holds named restored.value.kit (world_of restored.value) same right;
        played = subst (λ (n : Named). PlaysThem n restored.value) same played;
        snapshots = snapshots;
        counted = subst (λ (n : Named). PlaysSo n restored.value restored.plays) same counted;
        few = few;
      }

  counts_are : counts_named (named_of has) ≡ counts_at has.directory.snapshots
  counts_are = λ i place. counts_same has.directory.snapshots has.snapshots place (each_snapshot file has holds) i

  pub replayed_from : (named : Named) (old new : Tables) (near far : List (List ℕ)) (plays records count : ℕ) → named ≡ named_of has → near ≡ has.near → far ≡ has.far → new.kit ≡ old.kit
      → IsRightBase (named_of has) has.texts old.kit (world_of old) → PlaysThem (named_of has) old → HaveTheirSnapshots old → PlaysSo named old plays → plays ≤ MOST_TABLES * 2 ^ 33
      → (ArePlayed old → HaveTheirSnapshots old → length near ≤ LAST_SLOT → length far ≤ LAST_SLOT → PlaysRecords old.kit (world_of old) (near ++ far) (world_of new) records)
      → (plays + records < 2 ^ 64 → count ≡ plays + records) → HasTrueSnapshots has → IsReplayed has new.kit count
  replayed_from named old new near far plays records count same near_is far_is kit_is right plays_them had plays_so few of_records sum true =
      let there = told_base file has holds (world_of old) right.formed right.told in
      let shows = shows_them file has holds old.kit (world_of old) right.right right.banked true right.formed right.told in
      let played = base_played file has holds old right plays_them true in
      let few_near : length near ≤ LAST_SLOT = omega (arith, ap length near_is, few_in file has.root.half has.root.first has.near has.near_end holds.near_run) in
      let few_far : length far ≤ LAST_SLOT = omega (arith, ap length far_is, few_in file _ (has.root.first + length has.near) has.far has.far_end holds.far_run) in
      let of_tables = subst (λ (n : Named). PlaysSo n old plays) same plays_so shows in
      let played_records = of_records played.0 had few_near few_far in
      let few_plays = few_records old.kit (world_of old) (near ++ far) (world_of new) records played_records in
      let lines : near ++ far ≡ has.near ++ has.far = λ i. near_is i ++ far_is i in
      subst (λ (k : Kit). IsReplayed has k count) (sym kit_is)
      (record {
        base = world_of old;
        world = there.world;
        is_base = record { spells = banked_world file has holds there.world (true there.world there.written) right.banked; based = there.based };
        of_tables = plays;
        tables = subst (λ (c : ℕ → List ℕ). PlaysTables old.kit c 0 (world_of old) plays) counts_are of_tables;
        now = world_of new;
        of_records = records;
        records = subst (λ (l : List (List ℕ)). PlaysRecords old.kit (world_of old) l (world_of new) records) lines played_records;
        both = sum (omega (arith, few, few_plays, length-append near far, few_near, few_far));
      })

  -- so it is of a file that stands for a world
  pub replayed_standing : (kit : Kit) (count : ℕ) (texts : KitTexts) (tables : World) → StandsFor file texts tables → (HasTrueSnapshots has → IsReplayed has kit count) → IsReplayed has kit count
  replayed_standing kit count texts tables stands so = so (standing_true file has holds (in_words texts tables) stands.stands)
