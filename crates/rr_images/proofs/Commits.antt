-- What the append of a record leaves of what a file keeps.
use Rattle.rr_pages.specs.Journal.Stops as journal
use Rattle.std.proofs.Common.{◌≡◌, ◌⊎◌, inl, inr, ℕ, ◌+◌, ◌^◌, ◌<◌, ◌≤◌, not, List, [], ◌∷◌, ◌++◌, length, refl, sym, subst, arith, length-append}
use Rattle.rr_disk.specs.Disk.{DiskState, IsImage, Torn}
use Rattle.rr_disk.specs.Moments.{EachImage}
use Rattle.rr_pages.specs.declared.journal.half.Half.{Half}
use Rattle.rr_pages.specs.declared.journal.layout.HalfIndex.{HalfIndex}
use Rattle.rr_pages.specs.declared.journal.reading.RunEnd.TheVariants.{Closed}
use Rattle.rr_pages.specs.Journal.Layout.{gate_place, HasRoom, spelling, other_half}
use Rattle.rr_pages.specs.Journal.Run.{Run, slots_of}
use Rattle.rr_pages.specs.Journal.Stops.{next_gate, MayLeave}
use Rattle.rr_pages.proofs.JournalLemmas.Moments.{before_or_after}
use Rattle.rr_pages.proofs.JournalLemmas.Runs.{run_fits}
use Rattle.rr_pages.proofs.JournalLemmas.Spelling.{length_behind}
use Rattle.rr_images.specs.Codec.{Codec, Replays}
use Rattle.rr_images.specs.Layout.{Layout, FarHalf, Unused, Old, Begun, KeepsFar, KeepsAt, far_lines}
use Rattle.rr_images.specs.Steps.{with_line, with_line_at, half_at, lines_at, first_at, GoesOnAt}
use Rattle.rr_images.proofs.Places.{half_high}
use Rattle.rr_images.proofs.Steps.{long, far_changed, near_changed}

-- one line more
pub replays_more : (codec : Codec) (lines : List (List ℕ)) (line : List ℕ) (old world after : codec.World) → Replays codec old lines world → codec.Takes line world after → Replays codec old (lines ++ line ∷ []) after
replays_more codec [] line old world after replays takes = (after, subst (λ (m : codec.World). codec.Takes line m after) (sym replays) takes, refl)
replays_more codec (first ∷ lines) line old world after replays takes = (replays.0, replays.1, replays_more codec lines line replays.0 world after replays.2 takes)

-- the settled file is an image
pub settled_may_stay : (state : DiskState) → IsImage state state.settled
settled_may_stay state = record { no_shorter = omega arith; no_longer = omega arith; kept = λ i h out. refl }

module _ (codec : Codec) (layout : Layout codec) (world : codec.World) where
  -- the records where the next one goes
  run_at : (file : List ℕ) (far : FarHalf) → layout.far ≡ far → KeepsAt codec layout file world → Run file (half_at layout.root.half far) 0 (first_at layout.root.first layout.near far) (lines_at layout.near far) Closed
  run_at file Unused is keeps = keeps.near_run
  run_at file Old is keeps = keeps.near_run
  run_at file (Begun lines) is keeps = subst (λ (far : FarHalf). KeepsFar file (other_half layout.root.half) (layout.root.first + length layout.near) far) is keeps.far_kept

  -- what the journal asks of the half where the next record goes
  pub journal_keeps : (state : DiskState) (half : Half) (number : ℕ) → GoesOnAt layout half number → EachImage state (λ image. KeepsAt codec layout image world)
      → journal.Keeps half state (first_at layout.root.first layout.near layout.far) (lines_at layout.near layout.far)
  journal_keeps state half number at each =
      let settled = each state.settled (settled_may_stay state) in
      let run = run_at state.settled layout.far refl settled in
      let fits : 0 + slots_of (lines_at layout.near layout.far) ≤ 255 = run_fits state.settled (half_at layout.root.half layout.far) 0 (first_at layout.root.first layout.near layout.far) (lines_at layout.near layout.far) Closed (omega arith) run in
      let high = half_high (half_at layout.root.half layout.far) in
      let enough = long codec layout world state.settled state.settled settled in
      record {
        within = subst (λ (index : HalfIndex). gate_place index half.next_slot < length state.settled) (sym at.index) (omega (arith, at.slot));
        next = at.slot;
        each = λ image is. subst (λ (index : HalfIndex). Run image index 0 (first_at layout.root.first layout.near layout.far) (lines_at layout.near layout.far) Closed) (sym at.index) (run_at image layout.far refl (each image is));
      }

  -- a tear within the half where the next record goes, in front of the half's last slot
  module _ (line : List ℕ) (after : codec.World) (takes : codec.Takes line world after) (a b : List ℕ) (keeps : KeepsAt codec layout a world) (at n : ℕ) (torn : Torn at n a b) where
    torn_at : (far : FarHalf) → layout.far ≡ far → gate_place (half_at layout.root.half far) 0 ≤ at → at + n ≤ gate_place (half_at layout.root.half far) 256
        → Run b (half_at layout.root.half far) 0 (first_at layout.root.first layout.near far) (lines_at layout.near far) Closed → KeepsAt codec layout b world
    torn_at Unused is low high run = near_changed codec layout world a b keeps at n torn low high layout.near layout.middle world run keeps.near_replayed (omega arith) (λ kept. kept) keeps.far_replayed
    torn_at Old is low high run = near_changed codec layout world a b keeps at n torn low high layout.near layout.middle world run keeps.near_replayed (omega arith) (λ kept. kept) keeps.far_replayed
    torn_at (Begun lines) is low high run =
        far_changed codec layout world a b keeps at n torn low high layout.far world (subst (λ (far : FarHalf). KeepsFar b (other_half layout.root.half) (layout.root.first + length layout.near) far) (sym is) run) keeps.far_replayed

    -- with no far lines the near ones lead to the world
    at_end : (far : FarHalf) → layout.far ≡ far → far_lines far ≡ [] → layout.middle ≡ world
    at_end far is none = subst (λ (lines : List (List ℕ)). Replays codec layout.middle lines world) none (subst (λ (f : FarHalf). Replays codec layout.middle (far_lines f) world) is keeps.far_replayed)

    longer : length (layout.near ++ line ∷ []) ≡ length layout.near + 1
    longer = omega (arith, length-append layout.near (line ∷ []))

    grown_at : (far : FarHalf) → layout.far ≡ far → gate_place (half_at layout.root.half far) 0 ≤ at → at + n ≤ gate_place (half_at layout.root.half far) 256
        → Run b (half_at layout.root.half far) 0 (first_at layout.root.first layout.near far) (lines_at layout.near far ++ line ∷ []) Closed → KeepsAt codec (with_line_at layout far line after) b after
    grown_at Unused is low high run =
        near_changed codec layout world a b keeps at n torn low high (layout.near ++ line ∷ []) after after run (replays_more codec layout.near line layout.base world after (subst (λ (m : codec.World). Replays codec layout.base layout.near m) (at_end Unused is refl) keeps.near_replayed) takes) (omega (arith, longer))
        (λ kept. subst (λ (far : FarHalf). KeepsFar b (other_half layout.root.half) (layout.root.first + length (layout.near ++ line ∷ [])) far) (sym is)
        (subst (λ (far : FarHalf). KeepsFar b (other_half layout.root.half) (layout.root.first + length layout.near) far) is kept))
        (subst (λ (far : FarHalf). Replays codec after (far_lines far) after) (sym is) refl)
    grown_at Old is low high run =
        near_changed codec layout world a b keeps at n torn low high (layout.near ++ line ∷ []) after after run (replays_more codec layout.near line layout.base world after (subst (λ (m : codec.World). Replays codec layout.base layout.near m) (at_end Old is refl) keeps.near_replayed) takes) (omega (arith, longer))
        (λ kept. subst (λ (far : FarHalf). KeepsFar b (other_half layout.root.half) (layout.root.first + length (layout.near ++ line ∷ [])) far) (sym is)
        (let was : KeepsFar b (other_half layout.root.half) (layout.root.first + length layout.near) Old = subst (λ (far : FarHalf). KeepsFar b (other_half layout.root.half) (layout.root.first + length layout.near) far) is kept in (was.0, omega (arith, was.1, longer))))
        (subst (λ (far : FarHalf). Replays codec after (far_lines far) after) (sym is) refl)
    grown_at (Begun lines) is low high run =
        far_changed codec layout world a b keeps at n torn low high (Begun (lines ++ line ∷ [])) after run
        (replays_more codec lines line layout.middle world after (subst (λ (far : FarHalf). Replays codec layout.middle (far_lines far) world) is keeps.far_replayed) takes)

  -- an append may leave what the file kept, or that with the line
  module _ (line : List ℕ) (after : codec.World) (takes : codec.Takes line world after) (state : DiskState) (half : Half) (number : ℕ) (goes_on : GoesOnAt layout half number) (each : EachImage state (λ image. KeepsAt codec layout image world))
      (room : HasRoom half.next_slot (length line)) (fits : number < 256 ^ 8) where
    pub low_end : gate_place (half_at layout.root.half layout.far) 0 ≤ next_gate half
    low_end = subst (λ (index : HalfIndex). gate_place (half_at layout.root.half layout.far) 0 ≤ gate_place index half.next_slot) (sym goes_on.index) (omega arith)

    pub high_end : next_gate half + length (spelling number line) ≤ gate_place (half_at layout.root.half layout.far) 256
    high_end =
        let long_enough = length_behind number line in
        subst (λ (index : HalfIndex). gate_place index half.next_slot + length (spelling number line) ≤ gate_place (half_at layout.root.half layout.far) 256) (sym goes_on.index) (omega (arith, long_enough, room.fits))

    as_part : (file : List ℕ) (lines : List (List ℕ)) → Run file half.index 0 (first_at layout.root.first layout.near layout.far) lines Closed → Run file (half_at layout.root.half layout.far) 0 (first_at layout.root.first layout.near layout.far) lines Closed
    as_part file lines run = subst (λ (index : HalfIndex). Run file index 0 (first_at layout.root.first layout.near layout.far) lines Closed) goes_on.index run

    -- a whole record is there
    pub taken_in : (image : List ℕ) → MayLeave half state number line image → Run image half.index 0 (first_at layout.root.first layout.near layout.far) (lines_at layout.near layout.far ++ line ∷ []) Closed → KeepsAt codec (with_line layout line after) image after
    taken_in image may run =
        grown_at line after takes may.earlier image (each may.earlier may.was) (next_gate half) (length (spelling number line)) may.elsewhere layout.far refl low_end high_end (as_part image (lines_at layout.near layout.far ++ line ∷ []) run)

    pub commit_leaves : (image : List ℕ) → MayLeave half state number line image → KeepsAt codec layout image world ⊎ KeepsAt codec (with_line layout line after) image after
    commit_leaves image may =
        elim (before_or_after half number (first_at layout.root.first layout.near layout.far) (lines_at layout.near layout.far) line goes_on.numbered goes_on.slot state (journal_keeps state half number goes_on each) room fits image may) [
          | inl run ↦ inl (torn_at line after takes may.earlier image (each may.earlier may.was) (next_gate half) (length (spelling number line)) may.elsewhere layout.far refl low_end high_end (as_part image (lines_at layout.near layout.far) run))
          | inr run ↦ inr (taken_in image may run)
        ]
