-- The moments of an append, from call to call, and the runs of records that a stop within it leaves.
use Rattle.std.proofs.Common.{◌≡◌, ◌⊎◌, inl, inr, ℕ, max, ◌+◌, ◌-◌, ◌^◌, ◌<◌, List, [], ◌∷◌, ◌++◌, length, slice_index, refl, sym, ap, ◌∙◌, subst, arith}
use Rattle.std.proofs.lemmas.List.{append-nil}
use Rattle.rr_disk.specs.Disk.{DiskState, IsImage, written, after_write, after_failed_write, after_sync, FailedWrite}
use Rattle.rr_disk.specs.Moments.{EachImage, LeavesOnly}
use Rattle.rr_disk.proofs.ImageLemmas.{length-written, written_before, written_inside, each_synced, each_at_rest}
use Rattle.rr_disk.proofs.MomentLemmas.{started, becomes, fails}
use Rattle.rr_pages.specs.declared.journal.half.Half.{Half}
use Rattle.rr_pages.specs.declared.journal.layout.HalfIndex.{HalfIndex}
use Rattle.rr_pages.specs.declared.journal.reading.RunEnd.{RunEnd}
use Rattle.rr_pages.specs.declared.journal.reading.RunEnd.TheVariants.{Closed}
use Rattle.rr_pages.specs.Journal.Layout.{gate_place, IsOpen, StandsAt, slots_for, HasRoom, spelling_behind_gate, spelling}
use Rattle.rr_pages.specs.Journal.Run.{Run, slots_of}
use Rattle.rr_pages.specs.Journal.Stops.{next_gate, IsReady, Keeps, IsAtRest, MayLeave}
use Rattle.rr_pages.proofs.JournalLemmas.Bytes.{at_same}
use Rattle.rr_pages.proofs.JournalLemmas.Runs.{run_on, run_ends, some_slot, slots_of-append}
use Rattle.rr_pages.proofs.JournalLemmas.Spelling.{is_record, shut_behind, length_behind}
use Rattle.rr_pages.proofs.JournalLemmas.Appends.{at_first, shut_may, first, first_failed, middle_may, second, second_failed, last}

module _ (half : Half) (before : DiskState) (past : List DiskState) (number : ℕ) (bytes : List ℕ) (ready : IsReady half before) where
  abbrev P : List ℕ → Type 0
  P = MayLeave half before number bytes

  begun : LeavesOnly past before past before P
  begun = started past before P (λ image is. shut_may half before number bytes ready image (at_first half before number bytes ready image is))

  pub first_fails : {past_new : List DiskState} {new : DiskState} → FailedWrite (next_gate half + 1) (length (spelling_behind_gate number bytes)) past before past_new new → LeavesOnly past before past_new new P
  first_fails failed = fails begun failed (first_failed half before number bytes ready)

  module _ (stays : IsImage before before.content) where
    abbrev pub staged : DiskState
    staged = after_write before (next_gate half + 1) (spelling_behind_gate number bytes)

    pub first_done : {past_mid : List DiskState} {mid : DiskState} → past_mid ≡ staged ∷ before ∷ past → mid ≡ after_sync staged → LeavesOnly past before past_mid mid P
    first_done {past_mid} {mid} passed is =
        let written = becomes begun {past_new = before ∷ past} {new = staged} staged refl refl (first half before number bytes ready) in
        becomes written {past_new = past_mid} {new = mid} (after_sync staged) passed is (middle_may half before number bytes ready stays)

    pub second_fails : {past_mid past_new : List DiskState} {mid new : DiskState} → past_mid ≡ staged ∷ before ∷ past → mid ≡ after_sync staged → FailedWrite (next_gate half) 1 past_mid mid past_new new → LeavesOnly past before past_new new P
    second_fails passed is failed =
        fails (first_done passed is) failed (λ upto front no_more. subst (λ (state : DiskState). EachImage (after_failed_write state (next_gate half) upto front) P) (sym is) (second_failed half before number bytes ready stays upto front no_more))

    pub second_done : {past_mid past_new : List DiskState} {mid new : DiskState} → past_mid ≡ staged ∷ before ∷ past → mid ≡ after_sync staged
        → past_new ≡ after_write mid (next_gate half) (165 ∷ []) ∷ mid ∷ past_mid → new ≡ after_sync (after_write mid (next_gate half) (165 ∷ [])) → LeavesOnly past before past_new new P
    second_done {past_mid} {past_new} {mid} {new} passed is passed_then is_then =
        let opened = after_write mid (next_gate half) (165 ∷ []) in
        let written = becomes (first_done passed is) {past_new = mid ∷ past_mid} {new = opened} opened refl refl
        (subst (λ (state : DiskState). EachImage (after_write state (next_gate half) (165 ∷ [])) P) (sym is) (second half before number bytes ready stays)) in
        becomes written {past_new = past_new} {new = new} (after_sync opened) passed_then is_then
        (subst (λ (state : DiskState). EachImage (after_sync (after_write state (next_gate half) (165 ∷ []))) P) (sym is) (last half before number bytes ready stays))

-- what a stop within the append leaves, by the half's records
module _ (half : Half) (number first : ℕ) (lines : List (List ℕ)) (bytes : List ℕ) (numbered : number ≡ first + length lines) (next : half.next_slot ≡ slots_of lines) where
  -- the bytes of the half's records stay
  abbrev records_stay : List ℕ → List ℕ → Type 0
  records_stay earlier image = (i : ℕ) → i < next_gate half → slice_index image i ≡ slice_index earlier i

  pub run_shut : (earlier image : List ℕ) → records_stay earlier image → Run earlier half.index 0 first lines Closed → (IsOpen image half.index half.next_slot → ⊥) → Run image half.index 0 first lines Closed
  run_shut earlier image stay run shut =
      let slot_is : half.next_slot ≡ 0 + slots_of lines = omega (arith, next) in
      subst (λ (all : List (List ℕ)). Run image half.index 0 first all Closed) (append-nil lines)
      (run_on earlier image half.index 0 first lines [] Closed Closed
      (λ i low high. stay i (omega (arith, next, high)))
      run
      (subst (λ (slot : ℕ). slot < 255 → IsOpen image half.index slot → ⊥) slot_is (λ in_part. shut)))

  pub run_whole : (earlier image : List ℕ) → records_stay earlier image → Run earlier half.index 0 first lines Closed → HasRoom half.next_slot (length bytes) → number < 256 ^ 8 → StandsAt image (next_gate half) (spelling number bytes)
      → Run image half.index 0 first (lines ++ bytes ∷ []) Closed
  run_whole earlier image stay run room fits stands =
      let slot_is : half.next_slot ≡ 0 + slots_of lines = omega (arith, next) in
      let is = is_record image half.index half.next_slot number bytes stands fits room in
      let shut : IsOpen image half.index (half.next_slot + slots_for (length bytes)) → ⊥ = λ open_gate. absurd (omega (arith, shut_behind image half.index half.next_slot number bytes stands, open_gate)) in
      run_on earlier image half.index 0 first lines (bytes ∷ []) Closed Closed
      (λ i low high. stay i (omega (arith, next, high)))
      run
      (subst (λ (n : ℕ). Run image half.index (0 + slots_of lines) n (bytes ∷ []) Closed) numbered
      (subst (λ (slot : ℕ). Run image half.index slot number (bytes ∷ []) Closed) slot_is (is, λ in_part. shut)))

  pub before_or_after : (before : DiskState) → Keeps half before first lines → HasRoom half.next_slot (length bytes) → number < 256 ^ 8 → (image : List ℕ) → MayLeave half before number bytes image
      → Run image half.index 0 first lines Closed ⊎ Run image half.index 0 first (lines ++ bytes ∷ []) Closed
  before_or_after before keeps room fits image may =
      let run = keeps.each may.earlier may.was in
      let stay : records_stay may.earlier image = λ i h. may.elsewhere.same i (omega (arith, h, keeps.within, may.was.no_shorter)) (inl h) in
      elim may.whole [
        | inl shut ↦ inl (run_shut may.earlier image stay run shut)
        | inr stands ↦ inr (run_whole may.earlier image stay run room fits stands)
      ]

  -- after the append the half keeps them all
  pub kept_after : (before after : DiskState) (slots : ℕ) → Keeps half before first lines → HasRoom half.next_slot (length bytes) → number < 256 ^ 8 → IsImage before before.content
      → slots ≡ slots_for (length bytes) → after ≡ after_sync (after_write before (next_gate half) (spelling number bytes))
      → Keeps (record { index = half.index; next_slot = half.next_slot + slots }) after first (lines ++ bytes ∷ [])
  kept_after before after slots keeps room fits stays takes is =
      let file = before.content in
      let whole = spelling number bytes in
      let image = written file (next_gate half) whole in
      let long : length image ≡ max (length file) (next_gate half + length whole) = length-written file (next_gate half) whole in
      let stands : StandsAt image (next_gate half) whole = λ i h. written_inside file (next_gate half) whole (next_gate half + i) (omega arith) (omega arith) ∙ at_same whole (next_gate half + i - next_gate half) i (omega arith) in
      let run = run_whole file image (λ i h. written_before file (next_gate half) whole i h) (keeps.each file stays) room fits stands in
      record {
        within = subst (λ (state : DiskState). gate_place half.index (half.next_slot + slots) < length state.settled) (sym is) (omega (arith, long, length_behind number bytes, takes));
        next = omega (arith, keeps.next, takes, slots_of-append lines (bytes ∷ []));
        each = subst (λ (state : DiskState). EachImage state (λ file. Run file half.index 0 first (lines ++ bytes ∷ []) Closed)) (sym is)
            (each_synced (after_write before (next_gate half) whole) (λ file. Run file half.index 0 first (lines ++ bytes ∷ []) Closed) run);
      }

-- a half that keeps its records is ready for one more, where that has room
pub keeps_ready : (half : Half) (before : DiskState) (first count : ℕ) (lines : List (List ℕ)) → HasRoom half.next_slot count → Keeps half before first lines → IsReady half before
keeps_ready half before first count lines room keeps =
    let some = some_slot count in
    record {
      within = keeps.within;
      shut = λ image is.
          let ends : 0 + slots_of lines < 255 → IsOpen image half.index (0 + slots_of lines) → ⊥ = run_ends image half.index 0 first lines Closed (keeps.each image is) in
          let slot_is : 0 + slots_of lines ≡ half.next_slot = omega (arith, keeps.next) in
          subst (λ (slot : ℕ). slot < 255 → IsOpen image half.index slot → ⊥) slot_is ends (omega (arith, room.fits, some));
    }

-- a half that was read from a disk at rest keeps what was found
pub keeps_at_rest : (half : Half) (state read : DiskState) (index : HalfIndex) (first : ℕ) (lines : List (List ℕ)) (end : RunEnd) → IsAtRest state → end ≡ Closed → next_gate half < length state.content
    → half.index ≡ index → half.next_slot ≡ slots_of lines → state ≡ read → Run read.content index 0 first lines end → Keeps half state first lines
keeps_at_rest half state read index first lines end rest closed within is_index next same run =
    let here : Run state.content half.index 0 first lines Closed =
    subst (λ (file : List ℕ). Run file half.index 0 first lines Closed) (ap (λ (s : DiskState). s.content) (sym same))
    (subst (λ (h : HalfIndex). Run read.content h 0 first lines Closed) (sym is_index) (subst (λ (e : RunEnd). Run read.content index 0 first lines e) closed run)) in
    record {
      within = subst (λ (file : List ℕ). next_gate half < length file) (sym rest.1) within;
      next = next;
      each = each_at_rest state (λ image. Run image half.index 0 first lines Closed) rest.0 (subst (λ (file : List ℕ). Run file half.index 0 first lines Closed) (sym rest.1) here);
    }
