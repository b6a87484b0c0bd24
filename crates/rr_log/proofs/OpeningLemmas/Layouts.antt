-- What is read of a file that keeps a world is its layout, and an opening goes on with it.
use Rattle.std.proofs.Common.{◌≡◌, ◌≢◌, ℕ, ◌+◌, List, [], ◌∷◌, ◌++◌, length, Option, refl, sym, ◌∙◌, subst}
use Rattle.rr_checkpoint.specs.declared.place.Place.{Place}
use Rattle.rr_checkpoint.specs.declared.checkpoint.Checkpoint.{Checkpoint}
use Rattle.rr_checkpoint.specs.Checkpoint.{progress_of}
use Rattle.rr_checkpoint.specs.OpenFile.{IsBegunAt, HasComing, Tells}
use Rattle.rr_checkpoint.specs.Writer.{place_of, taken_of, free_of, ticks_left_of}
use Rattle.rr_checkpoint.proofs.Writers.{none_left}
use Rattle.rr_disk.specs.Disk.{DiskState, after_sync}
use Rattle.rr_images.specs.Codec.{Codec, Replays, IsExact}
use Rattle.rr_images.specs.Holding.{Holding, texts_of, reached_of}
use Rattle.rr_images.specs.Layout.{Layout, FarHalf, Unused, Old, Begun, far_lines, KeepsAt, Keeps, opened_far}
use Rattle.rr_images.specs.Progress.{IsBetween}
use Rattle.rr_images.specs.Steps.{with_far}
use Rattle.rr_images.proofs.Following.{ReadThere, read_there}
use Rattle.rr_images.proofs.GoesOn.{goes_opened}
use Rattle.rr_images.proofs.OneWorld.{IsThere, there_of, one_holding_there, end_of, far_stands, kept_opened, opened_between}
use Rattle.rr_pages.specs.declared.journal.reading.RunEnd.TheVariants.{Closed, Damaged}
use Rattle.rr_pages.specs.Journal.Reading.{lines}
use Rattle.rr_pages.specs.Journal.Run.{Run}
use Rattle.rr_pages.proofs.JournalLemmas.Runs.{one_run}
use Rattle.rr_log.specs.declared.opening.opened.Opened.{Opened}
use Rattle.rr_log.specs.Opening.Carrying.{IsReadAs, CarriesRead}
use Rattle.rr_log.specs.Opening.Opened.{held_by}
use Rattle.rr_log.specs.Opening.Place.{begun_at, GoesBehind}
use Rattle.rr_pages.specs.declared.root.Root.{Root}
use Rattle.rr_pages.specs.Sets.{Has}
use Rattle.rr_pages.proofs.ChoosingLemmas.{one_taken}
use Rattle.rr_pages.specs.Journal.Layout.{other_half}
use Rattle.rr_reading.specs.Held.{Held, chains_of, holding_of}
use Rattle.rr_reading.specs.Laws.{NamesChains}
use Rattle.rr_reading.specs.Reading.{Holds}
use Rattle.rr_reading.proofs.Standing.{held_is_read}

-- a checkpoint is begun where the other half has records
begun_opened : (number : ℕ) (far : FarHalf) → IsBegunAt (begun_at number (far_lines far)) number (opened_far far)
begun_opened number Unused = tt
begun_opened number Old = tt
begun_opened number (Begun []) = tt
begun_opened number (Begun (line ∷ lines)) = ((line ∷ lines, refl), refl)

module _ (codec : Codec) (exact : IsExact codec) (names : NamesChains codec) (file : List ℕ) (has : Held) (holds : Holds file has) (layout : Layout codec) (world : codec.World) (keeps : KeepsAt codec layout file world) where
  -- the root that is taken
  same_taken : (has.side ≡ layout.side) × (has.root ≡ layout.root)
  same_taken =
      let taken = holds.chains.has_directory.taken in
      one_taken file has.side layout.side has.root layout.root taken.0 layout.stale taken.1 keeps.taken

  -- what it holds, and the pages that it reaches
  there : ReadThere codec file has.root (holding_of has) has.reached
  there = read_there codec file has.root (holding_of has) has.reached holds.chains.has_directory.taken.1.sound.pages_high (held_is_read codec names file has holds)

  same_holding : holding_of has ≡ layout.holding
  same_holding =
      one_holding_there codec exact file has.root (holding_of has) layout.holding there.there
      (subst (λ (root : Root). IsThere codec file root layout.holding) (sym same_taken.1) (there_of codec file layout.root layout.holding layout.base keeps.spelled))

  reaches : Has has.reached (reached_of layout.holding)
  reaches = subst (λ (holding : Holding). Has has.reached (reached_of holding)) same_holding there.has_them

  -- the records of both halves
  same_near : (has.near ≡ layout.near) × (has.near_end ≡ Closed)
  same_near =
      one_run file has.root.half 0 has.root.first layout.near has.near Closed has.near_end
      (subst (λ (root : Root). Run file root.half 0 root.first layout.near Closed) (sym same_taken.1) keeps.near_run) holds.near_run

  same_far : (has.far ≡ far_lines layout.far) × (has.far_end ≡ end_of layout.far) × (has.far_end ≢ Damaged)
  same_far =
      let far = far_stands file (other_half layout.root.half) (layout.root.first + length layout.near) layout.far keeps.far_kept in
      let number : has.root.first + length has.near ≡ layout.root.first + length layout.near = λ i. (same_taken.1 i).first + length (same_near.0 i) in
      let here : Run file (other_half has.root.half) 0 (has.root.first + length has.near) (far_lines layout.far) (end_of layout.far) =
      subst (λ (root : Root). Run file (other_half root.half) 0 (has.root.first + length has.near) (far_lines layout.far) (end_of layout.far)) (sym same_taken.1)
      (subst (λ (first : ℕ). Run file (other_half layout.root.half) 0 first (far_lines layout.far) (end_of layout.far)) (sym number) far.0) in
      let same = one_run file (other_half has.root.half) 0 (has.root.first + length has.near) (far_lines layout.far) has.far (end_of layout.far) has.far_end here holds.far_run in
      (same.0, same.1, λ is. far.1 (sym same.1 ∙ is))

  pub is_read_as : IsReadAs layout has world
  is_read_as =
      record {
        side = sym same_taken.0;
        root = sym same_taken.1;
        holding = sym same_holding;
        near = sym same_near.0;
        far = sym same_far.0;
        spells = subst (λ (root : Root). codec.Spells root.version has.chain.text (texts_of (chains_of has.texts (has.tables ++ has.snapshots))) layout.base) (sym same_taken.1)
            (subst (λ (holding : Holding). codec.Spells layout.root.version holding.directory.text (texts_of holding.chains) layout.base) (sym same_holding) keeps.spelled.spells);
        leads = subst (λ (lines : List (List ℕ)). Replays codec layout.base lines layout.middle) (sym same_near.0) keeps.near_replayed;
        leads_on = subst (λ (lines : List (List ℕ)). Replays codec layout.middle lines world) (sym same_far.0) keeps.far_replayed;
        near_whole = same_near.1;
        far_whole = same_far.2;
      }

  goes_same : (place : Place) → GoesBehind has.root has.near has.far place → GoesBehind layout.root layout.near (far_lines layout.far) place
  goes_same place goes = subst (λ (P : Type 0). P) (λ i. GoesBehind (same_taken.1 i) (same_near.0 i) (same_far.0 i) place) goes

  -- where the next record goes, by the layout with which an opening goes on
  pub begun_there : (place : Place) → GoesBehind has.root has.near has.far place → IsBegunAt place.begun (layout.root.first + length layout.near) (opened_far layout.far)
  begun_there place goes =
      let number = layout.root.first + length layout.near in
      subst (λ (begun : Option ℕ). IsBegunAt begun number (opened_far layout.far)) (sym (goes_same place goes).begun) (begun_opened number layout.far)

-- the writer of an opened file tells that layout
tells_opened : {C : Type 0} (codec : Codec) (exact : IsExact codec) (names : NamesChains codec) (opened : Opened C) (file : List ℕ) (holds : Holds file (held_by file opened)) (layout : Layout codec) (world : codec.World) (keeps : KeepsAt codec layout file world)
    → GoesBehind (taken_of opened.writer).root (lines opened.near.records.items) (lines opened.far.records.items) (place_of opened.writer)
    → Tells (taken_of opened.writer) (place_of opened.writer) (free_of opened.writer) (with_far layout (opened_far layout.far))
tells_opened codec exact names opened file holds layout world keeps goes =
    let has = held_by file opened in
    let place = place_of opened.writer in
    let there = goes_same codec exact names file has holds layout world keeps place goes in
    let same = same_taken codec exact names file has holds layout world keeps in
    record {
      side = sym same.0;
      root = sym same.1;
      begun = begun_there codec exact names file has holds layout world keeps place goes;
      goes_on = goes_opened codec layout place.half place.number there.index there.slot there.number;
      reached = reaches codec exact names file has holds layout world keeps;
    }

-- it carries the world of a file that keeps one
pub carries_read : {C : Type 0} (codec : Codec) (opened : Opened C) (old new : DiskState) → Holds old.content (held_by old.content opened) → GoesBehind (taken_of opened.writer).root (lines opened.near.records.items) (lines opened.far.records.items) (place_of opened.writer)
    → ticks_left_of opened.writer ≡ 0 → new ≡ after_sync old → IsExact codec → NamesChains codec → (world : codec.World) → Keeps codec old.content world → CarriesRead codec opened new world
carries_read codec opened old new holds goes resting is exact names world keeps =
    let layout : Layout codec = with_far keeps.layout (opened_far keeps.layout.far) in
    let kept : KeepsAt codec layout old.content world = kept_opened codec keeps.layout old.content world keeps.layout.far refl keeps.kept in
    let none = none_left opened.writer.checkpoint resting in
    subst (λ (state : DiskState). CarriesRead codec opened state world) (sym is)
    (record {
      carries = record {
        layout = layout;
        holding = layout.holding;
        tells = tells_opened codec exact names opened old.content holds keeps.layout world keeps.kept goes;
        between = subst (λ (checkpoint : Option Checkpoint). IsBetween codec layout (after_sync old) (progress_of checkpoint layout.holding) world) (sym none) (opened_between codec keeps.layout old world keeps.kept);
        coming = subst (λ (checkpoint : Option Checkpoint). HasComing (free_of opened.writer) (taken_of opened.writer).root.number checkpoint layout.holding) (sym none) tt;
      };
      is_read = is_read_as codec exact names old.content (held_by old.content opened) holds layout world kept;
    })
