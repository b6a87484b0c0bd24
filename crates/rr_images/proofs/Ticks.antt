-- The steps of a checkpoint on a disk.
use Rattle.rr_images.proofs.Steps as steps
use Rattle.std.proofs.Common.{◌≡◌, ◌⊎◌, inl, inr, ℕ, ◌+◌, ◌-◌, ◌*◌, ◌<◌, ◌≤◌, not, List, [], ◌∷◌, ◌++◌, slice_index, length, refl, sym, ◌∙◌, ap, subst, arith}
use Rattle.std.proofs.lemmas.List.{append-nil, append_assoc}
use Rattle.std.proofs.lemmas.Bool.{cases_eq, cases_lt}
use Rattle.rr_disk.specs.Disk.{DiskState, IsImage, Torn, written, after_write, after_sync}
use Rattle.rr_disk.specs.Moments.{EachImage, TornFrom}
use Rattle.rr_disk.proofs.ImageLemmas.{torn_whole, torn_from, each_synced, length-written, written_inside}
use Rattle.rr_pages.specs.Journal.Layout.{gate_place, StandsAt, other_half}
use Rattle.rr_pages.proofs.JournalLemmas.Appends.{content_written}
use Rattle.rr_pages.proofs.JournalLemmas.Bytes.{at_same}
use Rattle.rr_images.specs.Codec.{Codec}
use Rattle.rr_pages.specs.declared.root.Root.{Root}
use Rattle.rr_pages.specs.Roots.{Stale, Shut, Older, root_gate, HasFields}
use Rattle.rr_pages.specs.Pages.{IsIn}
use Rattle.rr_images.specs.Holding.{Holding, reached_of, AllHeld}
use Rattle.rr_images.specs.Layout.{Spelled, Layout, Unused, Old, Begun, KeepsAt, KeepsUnder, IsSameRoot, IsEitherRoot}
use Rattle.rr_images.specs.Steps.{with_far, with_stale, flipped, IsPrepared}
use Rattle.rr_pages.specs.Laying.{PageStands, AllStand}
use Rattle.rr_images.specs.Progress.{AreSpare, Plan, IsPlan, Resting, Writing, Shutting, Filling, IsBetween}
use Rattle.rr_images.proofs.Places.{root_low}
use Rattle.rr_images.proofs.Steps.{torn_same, long}

-- pages that stand
pub stand_more : (file : List ℕ) (xs : List (ℕ × List ℕ)) (fresh : ℕ × List ℕ) → AllStand file xs → PageStands file fresh → AllStand file (xs ++ fresh ∷ [])
stand_more file [] fresh all stands = (stands, tt)
stand_more file (x ∷ xs) fresh all stands = (all.0, stand_more file xs fresh all.1 stands)

-- a tear below the data pages leaves them, as spare pages are above
pub stand_above : (reached : List ℕ) (a b : List ℕ) (at n : ℕ) (xs ys : List (ℕ × List ℕ)) → Torn at n a b → at + n ≤ 4096 * 514 → AreSpare reached (xs ++ ys) → AllStand a xs → AllStand b xs
stand_above reached a b at n [] ys torn below spare all = tt
stand_above reached a b at n (x ∷ xs) ys torn below spare all = (
  (
    omega (arith, all.0.0, torn.no_shorter),
    λ i h. torn.same (4096 * x.0 + i) (omega (arith, all.0.0, spare.1)) (inr (omega (arith, spare.0))) ∙ all.0.1 i h,
  ),
  stand_above (x.0 ∷ reached) a b at n xs ys torn below spare.3 all.1,
)

next_spare : (reached : List ℕ) (done todo : List (ℕ × List ℕ)) (x : ℕ × List ℕ) → AreSpare reached (done ++ x ∷ todo) → (514 ≤ x.0) × (length x.1 ≡ 4096) × (IsIn x.0 reached → ⊥)
next_spare reached [] todo x spare = (spare.0, spare.1, spare.2)
next_spare reached (d ∷ done) todo x spare =
    let there = next_spare (d.0 ∷ reached) done todo x spare.3 in
    (there.0, there.1, λ inside. there.2 (inr inside))

-- and one on a page leaves those written before
stand_beside : (reached : List ℕ) (a b : List ℕ) (n : ℕ) (done todo : List (ℕ × List ℕ)) (x : ℕ × List ℕ) → Torn (4096 * x.0) n a b → n ≤ 4096 → AreSpare reached (done ++ x ∷ todo) → AllStand a done → AllStand b done
stand_beside reached a b n [] todo x torn short spare all = tt
stand_beside reached a b n (d ∷ done) todo x torn short spare all =
    let there = next_spare (d.0 ∷ reached) done todo x spare.3 in
    let beside : (4096 * d.0 + 4096 ≤ 4096 * x.0) ⊎ (4096 * x.0 + n ≤ 4096 * d.0) = elim (cases_lt d.0 x.0) [
      | inl less ↦ inl (omega arith)
      | inr not_less ↦ elim (cases_eq x.0 d.0) [
        | inl is ↦ absurd (there.2 (inl is))
        | inr differs ↦ inr (omega arith)
      ]
    ] in (
      (
        omega (arith, all.0.0, torn.no_shorter),
        λ i h. torn_same (4096 * x.0) n a b (4096 * d.0) (4096 * d.0 + 4096) torn all.0.0 beside (4096 * d.0 + i) (omega arith) (omega (arith, spare.1)) ∙ all.0.1 i h,
      ),
      stand_beside (d.0 ∷ reached) a b n done todo x torn short spare.3 all.1,
    )

-- what was written stands there
pub stands_written : (file : List ℕ) (at : ℕ) (bytes : List ℕ) → StandsAt (written file at bytes) at bytes
stands_written file at bytes i h = written_inside file at bytes (at + i) (omega arith) (omega arith) ∙ at_same bytes (at + i - at) i (omega arith)

-- after a sync a stop leaves what a read gives
pub only_content_of : (old : DiskState) (image : List ℕ) → IsImage (after_sync old) image → image ≡ old.content
only_content_of old image is = each_synced old (λ (file : List ℕ). file ≡ old.content) refl image is

-- a plan is that of the layout whatever the far lines are, and whether the stale root's gate is shut
pub plan_on : (codec : Codec) (layout other_layout : Layout codec) (plan : Plan) → other_layout.root ≡ layout.root → other_layout.near ≡ layout.near → other_layout.holding ≡ layout.holding → other_layout.middle ≡ layout.middle → IsPlan codec layout plan → IsPlan codec other_layout plan
plan_on codec layout other_layout plan root near held middle is =
    record {
      next = record {
        number = omega (arith, is.next.number, ap (λ (r : Root). r.number) root);
        half = is.next.half ∙ ap (λ (r : Root). other_half r.half) (sym root);
        first = is.next.first ∙ (λ i. (sym root i).first + length (sym near i));
      };
      sound = is.sound;
      spare = subst (λ (holding : Holding). AreSpare (reached_of holding) plan.fresh) (sym held) is.spare;
      long = λ file enough all. is.long file (subst (λ (r : Root). 4096 * r.pages ≤ length file) root enough) all;
      spells = λ file there all. subst (λ (world : codec.World). Spelled codec file plan.root plan.holding world) (sym middle)
          (is.spells file (subst (λ (holding : Holding). AllHeld file holding.chains) held there) all);
    }

-- a layout has its own root
pub still_root : {codec : Codec} (layout : Layout codec) → IsSameRoot layout layout
still_root layout = record { root = refl; base = refl; holding = refl }

module _ (codec : Codec) (layout : Layout codec) (state : DiskState) (world : codec.World) (stays : IsImage state state.content) where
  -- the next fresh page is written
  module _ (plan : Plan) (done todo : List (ℕ × List ℕ)) (x : ℕ × List ℕ) (between : IsBetween codec layout state (Writing plan done (x ∷ todo)) world) where
    spare_there : AreSpare (reached_of layout.holding) (done ++ x ∷ todo)
    spare_there = subst (λ (all : List (ℕ × List ℕ)). AreSpare (reached_of layout.holding) all) between.come.2 between.come.0.spare

    pub next_whole : length x.1 ≡ 4096
    next_whole = (next_spare (reached_of layout.holding) done todo x spare_there).1

    pub page_leaves : (image : List ℕ) → TornFrom state (4096 * x.0) 4096 image → KeepsAt codec layout image world
    page_leaves image torn =
        let spare = next_spare (reached_of layout.holding) done todo x spare_there in
        steps.fresh_page codec layout world torn.earlier image (between.each torn.earlier torn.was) x.0 4096 torn.torn (omega arith) spare.0 spare.2

    pub page_done : IsBetween codec layout (after_write state (4096 * x.0) x.1) (Writing plan (done ++ x ∷ []) todo) world
    page_done =
        let spare = next_spare (reached_of layout.holding) done todo x spare_there in
        let is = content_written state (4096 * x.0) x.1 (omega (arith, spare.1)) in
        let torn = torn_whole state.content (4096 * x.0) x.1 in
        record {
          each = λ image is_image. page_leaves image (torn_from state (4096 * x.0) 4096 x.1 image (omega (arith, spare.1)) is_image);
          come = (
            between.come.0,
            between.come.1,
            between.come.2 ∙ sym (append_assoc done (x ∷ []) todo),
            subst (λ (file : List ℕ). AllStand file (done ++ x ∷ [])) (sym is)
                (stand_more (written state.content (4096 * x.0) x.1) done x
                (stand_beside (reached_of layout.holding) state.content (written state.content (4096 * x.0) x.1) (length x.1) done todo x torn (omega (arith, spare.1)) spare_there between.come.3)
                (omega (arith, spare.1, length-written state.content (4096 * x.0) x.1), stands_written state.content (4096 * x.0) x.1)),
          );
        }

  -- the stale root's gate is shut
  module _ (plan : Plan) (between : IsBetween codec layout state (Writing plan plan.fresh []) world) where
    pub stale_leaves : (older : Root) → layout.stale ≡ Older older → (image : List ℕ) → TornFrom state (root_gate (not layout.side)) 1 image → KeepsUnder codec (IsSameRoot layout) image world
    stale_leaves older is image torn =
        elim (steps.stale_gate_torn codec layout world torn.earlier image (between.each torn.earlier torn.was) 1 older is torn.torn (omega arith)) [
          | inl kept ↦ record { layout = layout; kept = kept; is_root = still_root layout }
          | inr kept ↦ record { layout = with_stale layout Shut; kept = kept; is_root = record { root = refl; base = refl; holding = refl } }
        ]

    shutting : (other_layout : Layout codec) (file : List ℕ) → other_layout ≡ with_stale layout Shut → KeepsAt codec (with_stale layout Shut) file world → AllStand file plan.fresh → (new : DiskState) → ((image : List ℕ) → IsImage new image → image ≡ file) → IsBetween codec (with_stale layout Shut) new (Shutting plan) world
    shutting other_layout file is kept stand new only =
        record {
          each = λ image is_image. subst (λ (f : List ℕ). KeepsAt codec (with_stale layout Shut) f world) (sym (only image is_image)) kept;
          come = (
            plan_on codec layout (with_stale layout Shut) plan refl refl refl refl between.come.0,
            between.come.1,
            refl,
            λ image is_image. subst (λ (f : List ℕ). AllStand f plan.fresh) (sym (only image is_image)) stand,
          );
        }

    -- by a write, where it was open
    pub stale_shut : IsBetween codec (with_stale layout Shut) (after_sync (after_write state (root_gate (not layout.side)) (0 ∷ []))) (Shutting plan) world
    stale_shut =
        let gate = root_gate (not layout.side) in
        let side = root_low (not layout.side) in
        let file = written state.content gate (0 ∷ []) in
        let torn = torn_whole state.content gate (0 ∷ []) in
        let zero_there : slice_index file gate ≡ 0 = at_same file gate (gate + 0) (omega arith) ∙ stands_written state.content gate (0 ∷ []) 0 (omega arith) in
        shutting (with_stale layout Shut) file refl
        (steps.shut_now codec layout world state.content file (between.each state.content stays) 1 torn (omega arith) (λ open_gate. absurd (omega (arith, zero_there, open_gate))))
        (stand_above (reached_of layout.holding) state.content file gate 1 plan.fresh [] torn (omega arith) (subst (λ (all : List (ℕ × List ℕ)). AreSpare (reached_of layout.holding) all) between.come.2 between.come.0.spare) between.come.3)
        (after_sync (after_write state gate (0 ∷ [])))
        (λ image is. only_content_of (after_write state gate (0 ∷ [])) image is)

    -- by a sync alone, where it was shut
    pub stale_was_shut : layout.stale ≡ Shut → IsBetween codec (with_stale layout Shut) (after_sync state) (Shutting plan) world
    stale_was_shut is =
        shutting (with_stale layout Shut) state.content refl
        (subst (λ (s : Stale). KeepsAt codec (with_stale layout s) state.content world) is (between.each state.content stays))
        between.come.3
        (after_sync state)
        (λ image is_image. only_content_of state image is_image)

  -- the next root is written behind the shut gate
  module _ (plan : Plan) (bytes : List ℕ) (short : length bytes ≤ 4095) (some : 0 < length bytes) (encoded : (file : List ℕ) → StandsAt file (root_gate (not layout.side) + 1) bytes → HasFields file (not layout.side) plan.root)
      (between : IsBetween codec layout state (Shutting plan) world) where
    abbrev behind : ℕ
    behind = root_gate (not layout.side) + 1

    pub fill_leaves : (image : List ℕ) → TornFrom state behind (length bytes) image → KeepsAt codec layout image world
    fill_leaves image torn =
        steps.filled codec layout world torn.earlier image (between.each torn.earlier torn.was) behind (length bytes) between.come.2 torn.torn (omega arith) (omega arith)

    pub fill_done : IsBetween codec layout (after_sync (after_write state behind bytes)) (Filling plan) world
    fill_done =
        let side = root_low (not layout.side) in
        let file = written state.content behind bytes in
        let is : (after_write state behind bytes).content ≡ file = content_written state behind bytes some in
        let torn = torn_whole state.content behind bytes in
        let kept = fill_leaves file (record { earlier = state.content; was = stays; torn = torn }) in
        let stand : AllStand file plan.fresh = stand_above (reached_of layout.holding) state.content file behind (length bytes) plan.fresh [] torn (omega arith)
        (subst (λ (all : List (ℕ × List ℕ)). AreSpare (reached_of layout.holding) all) (sym (append-nil plan.fresh)) between.come.0.spare) (between.come.3 state.content stays) in
        let enough : 4096 * plan.root.pages ≤ length file = between.come.0.long file kept.taken.sound.within stand in
        let only : (image : List ℕ) → IsImage (after_sync (after_write state behind bytes)) image → image ≡ file = λ image is_image. only_content_of (after_write state behind bytes) image is_image ∙ is in
        record {
          each = λ image is_image. subst (λ (f : List ℕ). KeepsAt codec layout f world) (sym (only image is_image)) kept;
          come = (
            between.come.0,
            between.come.1,
            between.come.2,
            λ image is_image. subst (λ (f : List ℕ). IsPrepared codec layout plan.root plan.holding f) (sym (only image is_image))
                (record {
                  fields = encoded file (stands_written state.content behind bytes);
                  sound = between.come.0.sound file enough;
                  spelled = between.come.0.spells file kept.spelled.chains stand;
                }),
          );
        }

  -- its gate is opened
  module _ (plan : Plan) (between : IsBetween codec layout state (Filling plan) world) where
    pub flip_leaves : (image : List ℕ) → TornFrom state (root_gate (not layout.side)) 1 image → KeepsUnder codec (IsEitherRoot layout plan.holding) image world
    flip_leaves image torn =
        elim (steps.opened codec layout world torn.earlier image (between.each torn.earlier torn.was) plan.root plan.holding between.come.1.0 (between.come.3 torn.earlier torn.was) between.come.0.next between.come.2 between.come.1.1 1 torn.torn (omega arith)) [
          | inl kept ↦ record { layout = layout; kept = kept; is_root = inl (still_root layout) }
          | inr kept ↦ record { layout = flipped layout plan.root plan.holding between.come.1.0 world; kept = kept; is_root = inr (record { base = refl; holding = refl }) }
        ]

    pub flip_done : IsBetween codec (flipped layout plan.root plan.holding between.come.1.0 world) (after_sync (after_write state (root_gate (not layout.side)) (165 ∷ []))) Resting world
    flip_done =
        let gate = root_gate (not layout.side) in
        let file = written state.content gate (165 ∷ []) in
        let torn = torn_whole state.content gate (165 ∷ []) in
        let open_there : slice_index file gate ≡ 165 = at_same file gate (gate + 0) (omega arith) ∙ stands_written state.content gate (165 ∷ []) 0 (omega arith) in
        let kept = steps.flips codec layout world state.content file (between.each state.content stays) plan.root plan.holding between.come.1.0 (between.come.3 state.content stays) between.come.0.next between.come.2 between.come.1.1 1 torn (omega arith) open_there in
        record {
          each = λ image is. subst (λ (f : List ℕ). KeepsAt codec (flipped layout plan.root plan.holding between.come.1.0 world) f world) (sym (only_content_of (after_write state gate (165 ∷ [])) image is)) kept;
          come = tt;
        }

  -- the other half's slot 0 is shut, and records go there
  module _ (each : EachImage state (λ image. KeepsAt codec layout image world)) where
    abbrev pub far_gate_of : ℕ
    far_gate_of = gate_place (other_half layout.root.half) 0

    pub begin_leaves : layout.far ≡ Old → (image : List ℕ) → TornFrom state far_gate_of 1 image → KeepsUnder codec (IsSameRoot layout) image world
    begin_leaves is image torn =
        elim (steps.far_gate_torn codec layout world torn.earlier image (each torn.earlier torn.was) 1 is torn.torn (omega arith)) [
          | inl kept ↦ record { layout = layout; kept = kept; is_root = still_root layout }
          | inr kept ↦ record { layout = with_far layout Unused; kept = kept; is_root = record { root = refl; base = refl; holding = refl } }
        ]

    beginning : (plan : Plan) (file : List ℕ) (new : DiskState) → IsPlan codec layout plan → KeepsAt codec (with_far layout (Begun [])) file world → ((image : List ℕ) → IsImage new image → image ≡ file) → IsBetween codec (with_far layout (Begun [])) new (Writing plan [] plan.fresh) world
    beginning plan file new is_plan kept only =
        record {
          each = λ image is_image. subst (λ (f : List ℕ). KeepsAt codec (with_far layout (Begun [])) f world) (sym (only image is_image)) kept;
          come = (plan_on codec layout (with_far layout (Begun [])) plan refl refl refl refl is_plan, ([], refl), refl, tt);
        }

    pub begin_done : (plan : Plan) → IsPlan codec layout plan → layout.far ≡ Old → IsBetween codec (with_far layout (Begun [])) (after_sync (after_write state far_gate_of (0 ∷ []))) (Writing plan [] plan.fresh) world
    begin_done plan is_plan is =
        let file = written state.content far_gate_of (0 ∷ []) in
        let torn = torn_whole state.content far_gate_of (0 ∷ []) in
        let zero_there : slice_index file far_gate_of ≡ 0 = at_same file far_gate_of (far_gate_of + 0) (omega arith) ∙ stands_written state.content far_gate_of (0 ∷ []) 0 (omega arith) in
        let shut = steps.far_shut_now codec layout world state.content file (each state.content stays) 1 is torn (omega arith) (λ open_gate. absurd (omega (arith, zero_there, open_gate))) in
        beginning plan file (after_sync (after_write state far_gate_of (0 ∷ []))) is_plan
        (steps.begins codec (with_far layout Unused) world file file shut refl)
        (λ image is_image. only_content_of (after_write state far_gate_of (0 ∷ [])) image is_image)

    pub begin_was_shut : (plan : Plan) → IsPlan codec layout plan → layout.far ≡ Unused → IsBetween codec (with_far layout (Begun [])) (after_sync state) (Writing plan [] plan.fresh) world
    begin_was_shut plan is_plan is =
        beginning plan state.content (after_sync state) is_plan (steps.begins codec layout world state.content state.content (each state.content stays) is) (λ image is_image. only_content_of state image is_image)
