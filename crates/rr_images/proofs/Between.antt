-- A commit while a checkpoint has come anywhere.
use Rattle.rr_pages.specs.Journal.Stops as journal
use Rattle.std.proofs.Common.{◌≡◌, ◌⊎◌, inl, inr, ℕ, ◌+◌, ◌*◌, ◌^◌, ◌<◌, ◌≤◌, not, List, [], ◌∷◌, ◌++◌, length, refl, sym, ap, subst, arith}
use Rattle.std.proofs.lemmas.List.{append-nil}
use Rattle.rr_disk.specs.Disk.{DiskState, IsImage, Torn, written, after_write, after_sync}
use Rattle.rr_disk.specs.Moments.{EachImage}
use Rattle.rr_disk.proofs.ImageLemmas.{torn_whole}
use Rattle.rr_pages.specs.declared.journal.half.Half.{Half}
use Rattle.rr_pages.specs.Journal.Layout.{HasRoom, spelling, slots_for}
use Rattle.rr_pages.specs.Journal.Stops.{next_gate, MayLeave}
use Rattle.rr_images.specs.Codec.{Codec}
use Rattle.rr_pages.specs.Roots.{root_gate}
use Rattle.rr_images.specs.Holding.{reached_of}
use Rattle.rr_images.specs.Layout.{Layout, FarHalf, Unused, Old, Begun, KeepsAt, KeepsUnder, IsSameRoot}
use Rattle.rr_images.specs.Steps.{with_far, with_line, with_line_at, half_at, lines_at, first_at, GoesOnAt, IsPrepared}
use Rattle.rr_pages.specs.Laying.{AllStand}
use Rattle.rr_images.specs.Progress.{AreSpare, Plan, IsBegun, Progress, Resting, Writing, Shutting, Filling, HasCome, IsBetween}
use Rattle.rr_images.proofs.Places.{root_low, half_low, half_high}
use Rattle.rr_images.proofs.Framing.{fields_same, sound_longer, spelled_same, reached_in}
use Rattle.rr_images.proofs.Steps.{torn_same, long}
use Rattle.rr_images.proofs.Commits.{commit_leaves, taken_in, low_end, high_end}
use Rattle.rr_images.proofs.Ticks.{stand_above, stands_written, only_content_of, plan_on, still_root}

-- a record leaves the root, what it holds and what that spells
pub line_root : {codec : Codec} (layout : Layout codec) (far : FarHalf) (line : List ℕ) (world : codec.World) → IsSameRoot layout (with_line_at layout far line world)
line_root layout Unused line world = record { root = refl; base = refl; holding = refl }
line_root layout Old line world = record { root = refl; base = refl; holding = refl }
line_root layout (Begun lines) line world = record { root = refl; base = refl; holding = refl }

module _ (codec : Codec) (layout : Layout codec) (world : codec.World) (line : List ℕ) (after : codec.World) (takes : codec.Takes line world after) (state : DiskState) (stays : IsImage state state.content) (half : Half) (number : ℕ) (goes_on : GoesOnAt layout half number)
    (room : HasRoom half.next_slot (length line)) (fits : number < 256 ^ 8) where
  -- a stop within the append leaves what was kept, or that with the line
  pub append_leaves : EachImage state (λ image. KeepsAt codec layout image world) → (image : List ℕ) → MayLeave half state number line image
      → KeepsUnder codec (IsSameRoot layout) image world ⊎ KeepsUnder codec (IsSameRoot layout) image after
  append_leaves each image may =
      elim (commit_leaves codec layout world line after takes state half number goes_on each room fits image may) [
        | inl kept ↦ inl (record { layout = layout; kept = kept; is_root = still_root layout })
        | inr kept ↦ inr (record { layout = with_line layout line after; kept = kept; is_root = line_root layout layout.far line after })
      ]

  abbrev pub taken_file : List ℕ
  taken_file = written state.content (next_gate half) (spelling number line)

  abbrev pub taken_state : DiskState
  taken_state = after_sync (after_write state (next_gate half) (spelling number line))

  torn_there : Torn (next_gate half) (length (spelling number line)) state.content taken_file
  torn_there = torn_whole state.content (next_gate half) (spelling number line)

  low_there : EachImage state (λ image. KeepsAt codec layout image world) → 8192 ≤ next_gate half
  low_there each =
      let lowest = half_low (half_at layout.root.half layout.far) in
      omega (arith, low_end codec layout world line after takes state half number goes_on each room fits)

  high_there : EachImage state (λ image. KeepsAt codec layout image world) → next_gate half + length (spelling number line) ≤ 4096 * 514
  high_there each =
      let highest = half_high (half_at layout.root.half layout.far) in
      omega (arith, high_end codec layout world line after takes state half number goes_on each room fits)

  stand_still : EachImage state (λ image. KeepsAt codec layout image world) → (reached : List ℕ) (xs ys : List (ℕ × List ℕ)) → AreSpare reached (xs ++ ys) → AllStand state.content xs → AllStand taken_file xs
  stand_still each reached xs ys spare stand =
      stand_above reached state.content taken_file (next_gate half) (length (spelling number line)) xs ys torn_there (high_there each) spare stand

  prepared_still : EachImage state (λ image. KeepsAt codec layout image world) → (far : FarHalf) (plan : Plan) → IsPrepared codec layout plan.root plan.holding state.content → IsPrepared codec (with_far layout far) plan.root plan.holding taken_file
  prepared_still each far plan prepared =
      let there = each state.content stays in
      let low = low_there each in
      let high = high_there each in
      let side = root_low (not layout.side) in
      let enough = long codec layout world state.content state.content there in
      record {
        fields = fields_same state.content taken_file (not layout.side) plan.root (torn_same (next_gate half) (length (spelling number line)) state.content taken_file (root_gate (not layout.side) + 1) (root_gate (not layout.side) + 36) torn_there (omega arith) (inl (omega arith))) prepared.fields;
        sound = sound_longer state.content taken_file plan.root torn_there.no_shorter prepared.sound;
        spelled = spelled_same state.content taken_file codec plan.root plan.holding layout.middle (λ p inside.
            let data_page = reached_in plan.root.pages p (reached_of plan.holding) prepared.spelled.in_data inside in
            torn_same (next_gate half) (length (spelling number line)) state.content taken_file (4096 * p) (4096 * p + 4096) torn_there (omega (arith, data_page.1, prepared.sound.within)) (inr (omega (arith, data_page.0)))) prepared.spelled;
      }

  only_taken : (image : List ℕ) → IsImage taken_state image → image ≡ taken_file
  only_taken image is = only_content_of (after_write state (next_gate half) (spelling number line)) image is

  still_begun : (progress : Progress) → EachImage state (λ image. KeepsAt codec layout image world) → IsBegun layout.far → HasCome codec layout state progress → (lines : List (List ℕ)) → HasCome codec (with_far layout (Begun lines)) taken_state progress
  still_begun Resting each begun come lines = tt
  still_begun (Writing plan done todo) each begun come lines = (
    plan_on codec layout (with_far layout (Begun lines)) plan refl refl refl refl come.0,
    (lines, refl),
    come.2,
    stand_still each (reached_of layout.holding) done todo (subst (λ (all : List (ℕ × List ℕ)). AreSpare (reached_of layout.holding) all) come.2 come.0.spare) come.3,
  )
  still_begun (Shutting plan) each begun come lines = (
    plan_on codec layout (with_far layout (Begun lines)) plan refl refl refl refl come.0,
    (lines, refl),
    come.2,
    λ image is. subst (λ (f : List ℕ). AllStand f plan.fresh) (sym (only_taken image is))
        (stand_still each (reached_of layout.holding) plan.fresh [] (subst (λ (all : List (ℕ × List ℕ)). AreSpare (reached_of layout.holding) all) (sym (append-nil plan.fresh)) come.0.spare) (come.3 state.content stays)),
  )
  still_begun (Filling plan) each begun come lines = (
    plan_on codec layout (with_far layout (Begun lines)) plan refl refl refl refl come.0,
    (lines, refl),
    come.2,
    λ image is. subst (λ (f : List ℕ). IsPrepared codec (with_far layout (Begun lines)) plan.root plan.holding f) (sym (only_taken image is))
        (prepared_still each (Begun lines) plan (come.3 state.content stays)),
  )

  still : (progress : Progress) → EachImage state (λ image. KeepsAt codec layout image world) → HasCome codec layout state progress → HasCome codec (with_line layout line after) taken_state progress
  still Resting each come = tt
  still (Writing plan done todo) each come =
      subst (λ (other_layout : Layout codec). HasCome codec other_layout taken_state (Writing plan done todo)) (sym (ap (λ (far : FarHalf). with_line_at layout far line after) come.1.1)) (still_begun (Writing plan done todo) each come.1 come (come.1.0 ++ line ∷ []))
  still (Shutting plan) each come =
      subst (λ (other_layout : Layout codec). HasCome codec other_layout taken_state (Shutting plan)) (sym (ap (λ (far : FarHalf). with_line_at layout far line after) come.1.1)) (still_begun (Shutting plan) each come.1 come (come.1.0 ++ line ∷ []))
  still (Filling plan) each come =
      subst (λ (other_layout : Layout codec). HasCome codec other_layout taken_state (Filling plan)) (sym (ap (λ (far : FarHalf). with_line_at layout far line after) come.1.1)) (still_begun (Filling plan) each come.1 come (come.1.0 ++ line ∷ []))

  -- after the append the store is between two calls again, the checkpoint where it was
  pub append_done : (progress : Progress) → IsBetween codec layout state progress world
      → journal.Keeps (record { index = half.index; next_slot = half.next_slot + slots_for (length line) }) taken_state (first_at layout.root.first layout.near layout.far) (lines_at layout.near layout.far ++ line ∷ [])
      → IsBetween codec (with_line layout line after) taken_state progress after
  append_done progress between keeps =
      let may : MayLeave half state number line taken_file = record { earlier = state.content; was = stays; elsewhere = torn_there; whole = inr (stands_written state.content (next_gate half) (spelling number line)) } in
      record {
        each = λ image is. taken_in codec layout world line after takes state half number goes_on between.each room fits image
            (subst (λ (f : List ℕ). MayLeave half state number line f) (sym (only_taken image is)) may) (keeps.each image is);
        come = still progress between.each between.come;
      }
