-- The steps by what the calls of pages and of the journal say of the disk.
use Rattle.std.proofs.Common.{◌≡◌, ◌≢◌, ◌⊎◌, inl, inr, ℕ, ◌+◌, ◌^◌, ◌<◌, not, List, [], ◌∷◌, slice_index, length, refl, sym, ◌∙◌, ap, subst, arith}
use Rattle.rr_disk.specs.Disk.{DiskState, IsImage, after_write, after_sync}
use Rattle.rr_disk.specs.Moments.{EachImage, TornFrom}
use Rattle.rr_disk.proofs.ImageLemmas.{synced_may_stay}
use Rattle.rr_pages.specs.declared.journal.half.Half.{Half}
use Rattle.rr_pages.specs.Journal.Layout.{HasRoom, slots_for, spelling, other_half}
use Rattle.rr_pages.specs.Journal.Stops as journal
use Rattle.rr_pages.specs.Journal.Stops.{next_gate, MayLeave}
use Rattle.rr_pages.proofs.JournalLemmas.Moments.{keeps_ready, kept_after}
use Rattle.rr_pages.specs.declared.root.Root.{Root}
use Rattle.rr_pages.specs.Pages.{AreData, StandsAt}
use Rattle.rr_pages.specs.Chains.{Links}
use Rattle.rr_pages.specs.Device.{Shuts, By_write, By_sync, MayShut, MayFlip, While_shutting, While_filling, While_opening}
use Rattle.rr_pages.specs.Roots.{Stale, Shut, Older, root_gate, root_bytes, HasFields, IsStale, FitsFields}
use Rattle.rr_pages.proofs.RootSpelling.{length-root, root_stands}
use Rattle.rr_pages.proofs.Versions.{known_fits}
use Rattle.rr_images.specs.Codec.{Codec}
use Rattle.rr_images.specs.Holding.{pages_of}
use Rattle.rr_images.specs.Layout.{Layout, FarHalf, Unused, Old, Begun, KeepsFar, KeepsAt, IsSameRoot, IsEitherRoot, far_lines}
use Rattle.rr_images.specs.Steps.{with_stale, with_far, flipped, behind_flip, lines_at, first_at, GoesOnAt}
use Rattle.rr_images.specs.Progress.{Plan, IsPlan, IsNotBegun, Progress, Resting, Writing, Shutting, Filling, IsBetween}
use Rattle.rr_images.specs.Calls.{far_gate, stale_gate, LeaveKept, Begins, WritesPage, ShutsStale, FillsRoot, TakesNewer, OpensRoot, FlipsRoots, Appends}
use Rattle.rr_images.proofs.Commits.{journal_keeps}
use Rattle.rr_images.proofs.Between.{append_leaves, append_done}
use Rattle.rr_images.proofs.GoesOn.{goes_line}
use Rattle.rr_images.proofs.OneWorld.{data_front, kept_stands}
use Rattle.rr_images.proofs.Ticks as ticks
use Rattle.rr_images.proofs.Ticks.{still_root}

-- the chain's first page is one of its pages
links_low : (file : List ℕ) (head count : ℕ) (pages text : List ℕ) → head ≢ 0 → Links file head pages text → AreData count pages → head < count
links_low file head count [] text some links data_pages = absurd (some links.0)
links_low file head count (page ∷ pages) text some links data_pages = omega (arith, links.0, data_pages.1)

pub not_begun : (far : FarHalf) → IsNotBegun far → (far ≡ Unused) ⊎ (far ≡ Old)
not_begun Unused none = inl refl
not_begun Old none = inr refl
not_begun (Begun lines) none = absurd none

nothing_in : (near : List (List ℕ)) → far_lines (behind_flip near) ≡ []
nothing_in [] = refl
nothing_in (line ∷ near) = refl

module _ (codec : Codec) (layout : Layout codec) (state : DiskState) (world : codec.World) (stays : IsImage state state.content) where
  -- the other half's gate, as a read tells it
  module _ (each : EachImage state (λ image. KeepsAt codec layout image world)) (none : IsNotBegun layout.far) where
    far_there : KeepsFar state.content (other_half layout.root.half) (layout.root.first + length layout.near) layout.far
    far_there = (each state.content stays).far_kept

    is_old : slice_index state.content (far_gate layout) ≡ 0xa5 → layout.far ≡ Old
    is_old open_gate = elim (not_begun layout.far none) [
      | inl is ↦ absurd ((subst (λ (far : FarHalf). KeepsFar state.content (other_half layout.root.half) (layout.root.first + length layout.near) far) is far_there) (omega arith) open_gate)
      | inr is ↦ is
    ]

    is_unused : slice_index state.content (far_gate layout) ≢ 0xa5 → layout.far ≡ Unused
    is_unused shut = elim (not_begun layout.far none) [
      | inl is ↦ is
      | inr is ↦ absurd (shut (subst (λ (far : FarHalf). KeepsFar state.content (other_half layout.root.half) (layout.root.first + length layout.near) far) is far_there).0)
    ]

    begin_leaves : LeaveKept codec (IsSameRoot layout) world (MayShut state (far_gate layout))
    begin_leaves image (inl was) = record { layout = layout; kept = each image was; is_root = still_root layout }
    begin_leaves image (inr torn) = ticks.begin_leaves codec layout state world stays each (is_old torn.0) image torn.1

    begin_done : (plan : Plan) (new : DiskState) → IsPlan codec layout plan → Shuts state (far_gate layout) new → IsBetween codec (with_far layout (Begun [])) new (Writing plan [] plan.fresh) world
    begin_done plan new is_plan (By_write open_gate is) =
        subst (λ (s : DiskState). IsBetween codec (with_far layout (Begun [])) s (Writing plan [] plan.fresh) world) (sym is) (ticks.begin_done codec layout state world stays each plan is_plan (is_old open_gate))
    begin_done plan new is_plan (By_sync shut is) =
        subst (λ (s : DiskState). IsBetween codec (with_far layout (Begun [])) s (Writing plan [] plan.fresh) world) (sym is) (ticks.begin_was_shut codec layout state world stays each plan is_plan (is_unused shut))

    pub begins : Begins codec layout state world
    begins = record { leaves = begin_leaves; done = begin_done }

  module _ (plan : Plan) where
    pub writes_page : (written left : List (ℕ × List ℕ)) (fresh : ℕ × List ℕ) → IsBetween codec layout state (Writing plan written (fresh ∷ left)) world → WritesPage codec layout state plan written fresh left world
    writes_page written left fresh between =
        record {
          whole = ticks.next_whole codec layout state world stays plan written left fresh between;
          leaves = ticks.page_leaves codec layout state world stays plan written left fresh between;
          done = ticks.page_done codec layout state world stays plan written left fresh between;
        }

    -- the stale root's gate, as a read tells it
    module _ (between : IsBetween codec layout state (Writing plan plan.fresh []) world) where
      stale_there : IsStale state.content (not layout.side) layout.root.number layout.stale
      stale_there = (between.each state.content stays).taken.other

      is_shut : (stale : Stale) → layout.stale ≡ stale → slice_index state.content (stale_gate layout) ≢ 0xa5 → layout.stale ≡ Shut
      is_shut Shut is shut = is
      is_shut (Older older) is shut = absurd (shut (subst (λ (stale : Stale). IsStale state.content (not layout.side) layout.root.number stale) is stale_there).0)

      is_older : (stale : Stale) → layout.stale ≡ stale → slice_index state.content (stale_gate layout) ≡ 0xa5 → (older : Root) × (layout.stale ≡ Older older)
      is_older Shut is open_gate = absurd ((subst (λ (stale : Stale). IsStale state.content (not layout.side) layout.root.number stale) is stale_there) open_gate)
      is_older (Older older) is open_gate = (older, is)

      shut_leaves : LeaveKept codec (IsSameRoot layout) world (MayShut state (stale_gate layout))
      shut_leaves image (inl was) = record { layout = layout; kept = between.each image was; is_root = still_root layout }
      shut_leaves image (inr torn) =
          let older = is_older layout.stale refl torn.0 in
          ticks.stale_leaves codec layout state world stays plan between older.0 older.1 image torn.1

      shut_done : (new : DiskState) → Shuts state (stale_gate layout) new → IsBetween codec (with_stale layout Shut) new (Shutting plan) world
      shut_done new (By_write open_gate is) =
          subst (λ (s : DiskState). IsBetween codec (with_stale layout Shut) s (Shutting plan) world) (sym is) (ticks.stale_shut codec layout state world stays plan between)
      shut_done new (By_sync shut is) =
          subst (λ (s : DiskState). IsBetween codec (with_stale layout Shut) s (Shutting plan) world) (sym is) (ticks.stale_was_shut codec layout state world stays plan between (is_shut layout.stale refl shut))

      pub shuts_stale : ShutsStale codec layout state plan world
      shuts_stale = record { leaves = shut_leaves; done = shut_done }

    -- the next root behind its gate
    module _ (between : IsBetween codec layout state (Shutting plan) world) where
      here : KeepsAt codec layout state.content world
      here = between.each state.content stays

      fits : FitsFields plan.root
      fits =
          let stand = between.come.3 state.content stays in
          let sound = between.come.0.sound state.content (between.come.0.long state.content here.taken.sound.within stand) in
          let spelled = between.come.0.spells state.content here.spelled.chains stand in
          let low = links_low state.content plan.root.directory plan.root.pages plan.holding.directory.pages plan.holding.directory.text spelled.directory.0 spelled.directory.1
          (data_front plan.root.pages plan.holding.directory.pages (pages_of plan.holding.chains) spelled.in_data) in
          record {
            number = omega (arith, sound.number);
            directory = omega (arith, low, sound.pages_high);
            first = omega (arith, sound.first_high);
            pages = omega (arith, sound.pages_high);
            version = known_fits plan.root.version sound.version;
          }

      encoded : (file : List ℕ) → StandsAt file (root_gate (not layout.side) + 1) (root_bytes plan.root) → HasFields file (not layout.side) plan.root
      encoded file stands = root_stands file (not layout.side) plan.root fits stands

      pub fills_root : FillsRoot codec layout state plan world
      fills_root =
          let long = length-root plan.root in
          record {
            leaves = λ image torn. ticks.fill_leaves codec layout state world stays plan (root_bytes plan.root) (omega (arith, long)) (omega (arith, long)) encoded between image
                (subst (λ (n : ℕ). TornFrom state (stale_gate layout + 1) n image) (sym long) torn);
            done = ticks.fill_done codec layout state world stays plan (root_bytes plan.root) (omega (arith, long)) (omega (arith, long)) encoded between;
          }

    -- its gate is opened
    module _ (lines : List (List ℕ)) (begun : layout.far ≡ Begun lines) (between : IsBetween codec layout state (Filling plan) world) where
      abbrev opened_state : DiskState
      opened_state = after_sync (after_write state (stale_gate layout) (0xa5 ∷ []))

      open_done : IsBetween codec (flipped layout plan.root plan.holding lines world) opened_state Resting world
      open_done =
          let same : between.come.1.0 ≡ lines = ap (λ (far : FarHalf). far_lines far) (sym between.come.1.1 ∙ begun) in
          subst (λ (near : List (List ℕ)). IsBetween codec (flipped layout plan.root plan.holding near world) opened_state Resting world) same (ticks.flip_done codec layout state world stays plan between)

      newer : (image : List ℕ) → IsImage opened_state image → TakesNewer codec layout world image
      unfolding kept_stands
      newer image is =
          record {
            stands = kept_stands codec (flipped layout plan.root plan.holding lines world) image world (open_done.each image is);
            newer = between.come.0.next.number;
            base = refl;
            near = sym begun;
            nothing_far = nothing_in layout.near;
          }

      pub opens_root : OpensRoot codec layout state plan lines world
      opens_root =
          record {
            leaves = ticks.flip_leaves codec layout state world stays plan between;
            done = open_done;
            renewed = newer;
          }

  -- a record is appended
  module _ (progress : Progress) (half : Half) (number : ℕ) (line : List ℕ) (after : codec.World) (takes : codec.Takes line world after) (room : HasRoom half.next_slot (length line)) (low : number < 2 ^ 63)
      (goes_on : GoesOnAt layout half number) (between : IsBetween codec layout state progress world) where
    kept_there : journal.Keeps half state (first_at layout.root.first layout.near layout.far) (lines_at layout.near layout.far)
    kept_there = journal_keeps codec layout world state half number goes_on between.each

    pub appends : Appends codec layout state progress half number line world after
    appends =
        let fits_number : number < 256 ^ 8 = omega (arith, low) in
        let first = first_at layout.root.first layout.near layout.far in
        let lines = lines_at layout.near layout.far in
        let taken = after_sync (after_write state (next_gate half) (spelling number line)) in
        record {
          ready = keeps_ready half state first (length line) lines room kept_there;
          leaves = append_leaves codec layout world line after takes state stays half number goes_on room fits_number between.each;
          done = append_done codec layout world line after takes state stays half number goes_on room fits_number progress between
              (kept_after half number first lines line goes_on.numbered goes_on.slot state taken (slots_for (length line)) kept_there room fits_number stays refl refl);
          goes_on = goes_line codec layout half number goes_on line after;
        }

-- the last three steps of a checkpoint in one call
module _ (codec : Codec) (layout : Layout codec) (state : DiskState) (world : codec.World) (stays : IsImage state state.content) (plan : Plan) (lines : List (List ℕ)) (begun : layout.far ≡ Begun lines) (between : IsBetween codec layout state (Writing plan plan.fresh []) world) where
  module _ (closed : DiskState) (shuts : Shuts state (stale_gate layout) closed) where
    closed_stays : IsImage closed closed.content
    closed_stays = elim shuts [
      | By_write open_gate is ↦ subst (λ (s : DiskState). IsImage s s.content) (sym is) (synced_may_stay (after_write state (stale_gate layout) (0 ∷ [])))
      | By_sync shut is ↦ subst (λ (s : DiskState). IsImage s s.content) (sym is) (synced_may_stay state)
    ]

    filling : FillsRoot codec (with_stale layout Shut) closed plan world
    filling = fills_root codec (with_stale layout Shut) closed world closed_stays plan ((shuts_stale codec layout state world stays plan between).done closed shuts)

    abbrev filled_state : DiskState
    filled_state = after_sync (after_write closed (stale_gate layout + 1) (root_bytes plan.root))

    opening : OpensRoot codec (with_stale layout Shut) filled_state plan lines world
    opening = opens_root codec (with_stale layout Shut) filled_state world (synced_may_stay (after_write closed (stale_gate layout + 1) (root_bytes plan.root))) plan lines begun filling.done

  either_still : (then : Layout codec) → IsEitherRoot (with_stale layout Shut) plan.holding then → IsEitherRoot layout plan.holding then
  either_still then (inl same) = inl (record { root = same.root; base = same.base; holding = same.holding })
  either_still then (inr coming) = inr (record { base = coming.base; holding = coming.holding })

  flip_leaves : LeaveKept codec (IsEitherRoot layout plan.holding) world (MayFlip state (stale_gate layout) (root_bytes plan.root))
  flip_leaves image (While_shutting may) =
      let left = (shuts_stale codec layout state world stays plan between).leaves image may in
      record { layout = left.layout; kept = left.kept; is_root = inl left.is_root }
  flip_leaves image (While_filling closed shuts torn) =
      record { layout = with_stale layout Shut; kept = (filling closed shuts).leaves image torn; is_root = inl (record { root = refl; base = refl; holding = refl }) }
  flip_leaves image (While_opening closed shuts torn) =
      let left = (opening closed shuts).leaves image torn in
      record { layout = left.layout; kept = left.kept; is_root = either_still left.layout left.is_root }

  newer_still : (image : List ℕ) → TakesNewer codec (with_stale layout Shut) world image → TakesNewer codec layout world image
  newer_still image takes = record { stands = takes.stands; newer = takes.newer; base = takes.base; near = takes.near; nothing_far = takes.nothing_far }

  pub flips_roots : FlipsRoots codec layout state plan lines world
  flips_roots =
      record {
        leaves = flip_leaves;
        done = λ new flips. subst (λ (s : DiskState). IsBetween codec (flipped layout plan.root plan.holding lines world) s Resting world) (sym flips.opens) (opening flips.closed flips.closes).done;
        renewed = λ new flips. subst (λ (s : DiskState). EachImage s (TakesNewer codec layout world)) (sym flips.opens)
            (λ image is. newer_still image ((opening flips.closed flips.closes).renewed image is));
      }
