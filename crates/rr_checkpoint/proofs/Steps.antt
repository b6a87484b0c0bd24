-- What each step of a checkpoint leaves of what is known of an open file.
use Rattle.std.proofs.Common.{◌≡◌, inl, inr, ℕ, zero, suc, ◌+◌, ◌*◌, ◌<◌, ◌≤◌, Bool, not, List, [], ◌∷◌, ◌++◌, length, get_or, take, drop, map, None, Some, refl, sym, ◌∙◌, ap, subst, arith}
use Rattle.std.specs.List.{slice_get}
use Rattle.std.proofs.lemmas.Option.{slice_get_read}
use Rattle.rr_disk.specs.Disk.{DiskState, IsImage, after_write, after_sync}
use Rattle.rr_disk.specs.Moments.{EachImage, TornFrom}
use Rattle.rr_pages.specs.declared.chain.FreshPage.{FreshPage}
use Rattle.rr_pages.specs.declared.free_pages.FreePages.{FreePages}
use Rattle.rr_pages.specs.declared.root.Root.{Root}
use Rattle.rr_pages.specs.Device.{Shuts, MayShut}
use Rattle.rr_pages.specs.FreePages.{present_of, coming_of}
use Rattle.rr_pages.specs.Roots.{Shut, root_gate, root_bytes}
use Rattle.rr_pages.specs.Sets.{Has}
use Rattle.rr_pages.specs.Writing.{fresh_of}
use Rattle.rr_images.specs.Calls.{stale_gate, WritesPage, ShutsStale, FillsRoot, OpensRoot, TakesNewer}
use Rattle.rr_images.specs.Codec.{Codec}
use Rattle.rr_images.specs.Holding.{reached_of}
use Rattle.rr_images.specs.Layout.{IsEitherRoot, KeepsUnder, Layout}
use Rattle.rr_images.specs.Progress as images
use Rattle.rr_images.specs.Progress.{IsBegun, IsNotBegun, Progress, Resting, Writing, Shutting, Filling, IsBetween}
use Rattle.rr_images.specs.Steps.{with_stale, flipped, behind_flip}
use Rattle.rr_images.proofs.Calls.{writes_page, shuts_stale, fills_root, opens_root}
use Rattle.rr_images.proofs.GoesOn.{goes_stale, goes_flip}
use Rattle.rr_images.proofs.Ticks.{still_root}
use Rattle.rr_checkpoint.specs.declared.checkpoint.Checkpoint.{Checkpoint}
use Rattle.rr_checkpoint.specs.declared.checkpoint.Stage.{Stage}
use Rattle.rr_checkpoint.specs.declared.checkpoint.Stage.TheVariants as S
use Rattle.rr_checkpoint.specs.declared.open_file.OpenFile.{OpenFile}
use Rattle.rr_checkpoint.specs.Calls.{IsRootAt}
use Rattle.rr_checkpoint.specs.Checkpoint.{plan_of, come_to, left_at, left_of}
use Rattle.rr_checkpoint.specs.Holds.{HoldsOn, HoldsRenewed}
use Rattle.rr_checkpoint.specs.OpenFile.{CarriesWith}

-- lists cut at a place
next_dropped : {A B : Type 0} (f : A → B) (xs : List A) (n : ℕ) (x : A) → slice_get xs n ≡ Some x → drop n (map f xs) ≡ f x ∷ drop (suc n) (map f xs)
next_dropped f [] n x found = absurd (cc)
next_dropped f (y ∷ xs) zero x found = let same : y ≡ x = cc in ap (λ z. f z ∷ map f xs) same
next_dropped f (y ∷ xs) (suc n) x found = next_dropped f xs n x found

next_taken : {A B : Type 0} (f : A → B) (xs : List A) (n : ℕ) (x : A) → slice_get xs n ≡ Some x → take n (map f xs) ++ f x ∷ [] ≡ take (suc n) (map f xs)
next_taken f [] n x found = absurd (cc)
next_taken f (y ∷ xs) zero x found = let same : x ≡ y = cc in ap (λ z. f z ∷ []) same
next_taken f (y ∷ xs) (suc n) x found = ap (λ l. f y ∷ l) (next_taken f xs n x found)

all_taken : {A B : Type 0} (f : A → B) (xs : List A) (n : ℕ) → length xs ≤ n → take n (map f xs) ≡ map f xs
all_taken f [] zero all = refl
all_taken f [] (suc n) all = refl
all_taken f (x ∷ xs) zero all = absurd (omega arith)
all_taken f (x ∷ xs) (suc n) all = ap (λ l. f x ∷ l) (all_taken f xs n (omega arith))

none_dropped : {A B : Type 0} (f : A → B) (xs : List A) (n : ℕ) → length xs ≤ n → drop n (map f xs) ≡ []
none_dropped f [] zero all = refl
none_dropped f [] (suc n) all = refl
none_dropped f (x ∷ xs) zero all = absurd (omega arith)
none_dropped f (x ∷ xs) (suc n) all = none_dropped f xs n (omega arith)

-- what `get` finds
pub found_at : {A : Type 0} (items lent : List A) (n : ℕ) (x : A) → lent ≡ items → n < length lent → x ≡ get_or lent n x → slice_get items n ≡ Some x
found_at items lent n x same below is = subst (λ xs. slice_get xs n ≡ Some x) same (slice_get_read lent (length lent) n x refl below is)

-- where records go on isn't begun behind the flip
none_behind : (near : List (List ℕ)) → IsNotBegun (behind_flip near)
none_behind [] = tt
none_behind (line ∷ near) = tt

module _ {C : Type 0} (codec : Codec) (file : OpenFile C) (checkpoint : Checkpoint) (state : DiskState) (world : codec.World) (stays : IsImage state state.content) (carries : CarriesWith codec file (Some checkpoint) state world) where
  abbrev plan : images.Plan
  plan = plan_of checkpoint.plan carries.holding

  at_stage : (stage : Stage) → checkpoint.stage ≡ stage → IsBetween codec carries.layout state (come_to stage plan) world
  at_stage stage is = subst (λ (s : Stage). IsBetween codec carries.layout state (come_to s plan) world) is carries.between

  gate_is : root_gate (not file.taken.side) ≡ stale_gate carries.layout
  gate_is = ap (λ (side : Bool). root_gate (not side)) (sym carries.tells.side)

  -- the next fresh page
  module _ (written : ℕ) (writing : checkpoint.stage ≡ S.Writing written) (fresh : FreshPage) (found : slice_get checkpoint.plan.fresh.items written ≡ Some fresh) where
    abbrev done : List (ℕ × List ℕ)
    done = take written plan.fresh

    abbrev left : List (ℕ × List ℕ)
    left = drop (suc written) plan.fresh

    page_next : WritesPage codec carries.layout state plan done (fresh_of fresh) left world
    page_next =
        writes_page codec carries.layout state world stays plan done left (fresh_of fresh)
        (subst (λ (todo : List (ℕ × List ℕ)). IsBetween codec carries.layout state (Writing plan done todo) world) (next_dropped fresh_of checkpoint.plan.fresh.items written fresh found) (at_stage (S.Writing written) writing))

    pub page_long : (bytes : List ℕ) → bytes ≡ fresh.bytes.items → length bytes ≡ 4096
    page_long bytes same = ap (λ (b : List ℕ). length b) same ∙ page_next.whole

    pub page_stops : (bytes : List ℕ) → bytes ≡ fresh.bytes.items → (image : List ℕ) → TornFrom state (4096 * fresh.page) (length bytes) image
        → KeepsUnder codec (IsRootAt (left_of (Some checkpoint)) carries.layout carries.holding) image world
    page_stops bytes same image torn =
        let long : length bytes ≡ 4096 = page_long bytes same in
        record { layout = carries.layout; kept = page_next.leaves image (subst (λ (n : ℕ). TornFrom state (4096 * fresh.page) n image) long torn); is_root = inl (still_root carries.layout) }

    pub page_carries : (bytes : List ℕ) → bytes ≡ fresh.bytes.items → (new : DiskState) → new ≡ after_write state (4096 * fresh.page) bytes
        → (then : CarriesWith codec file (Some (record { plan = checkpoint.plan; stage = S.Writing (written + 1) })) new world)
        × HoldsOn carries.layout carries.holding then.layout then.holding
    page_carries bytes same new is =
        let more : suc written ≡ written + 1 = omega arith in
        let became : new ≡ after_write state (4096 * fresh.page) fresh.bytes.items = is ∙ ap (λ (b : List ℕ). after_write state (4096 * fresh.page) b) same in (
          record {
            layout = carries.layout;
            holding = carries.holding;
            tells = carries.tells;
            between = subst (λ (n : ℕ). IsBetween codec carries.layout new (come_to (S.Writing n) plan) world) more
                (subst (λ (s : DiskState). IsBetween codec carries.layout s (come_to (S.Writing (suc written)) plan) world) (sym became)
                (subst (λ (front : List (ℕ × List ℕ)). IsBetween codec carries.layout (after_write state (4096 * fresh.page) fresh.bytes.items) (Writing plan front left) world)
                (next_taken fresh_of checkpoint.plan.fresh.items written fresh found) page_next.done));
            coming = carries.coming;
          },
          record { root = refl; base = refl; present = refl; coming = refl; middle = refl; far = refl },
        )

  -- the stale root's gate is shut
  module _ (written : ℕ) (writing : checkpoint.stage ≡ S.Writing written) (all : length checkpoint.plan.fresh.items ≤ written) where
    shut_next : ShutsStale codec carries.layout state plan world
    shut_next =
        shuts_stale codec carries.layout state world stays plan
        (subst (λ (todo : List (ℕ × List ℕ)). IsBetween codec carries.layout state (Writing plan plan.fresh todo) world) (none_dropped fresh_of checkpoint.plan.fresh.items written all)
        (subst (λ (front : List (ℕ × List ℕ)). IsBetween codec carries.layout state (Writing plan front (drop written plan.fresh)) world) (all_taken fresh_of checkpoint.plan.fresh.items written all)
        (at_stage (S.Writing written) writing)))

    pub shut_stops : (image : List ℕ) → MayShut state (root_gate (not file.taken.side)) image
        → KeepsUnder codec (IsRootAt (left_of (Some checkpoint)) carries.layout carries.holding) image world
    shut_stops image may =
        let left = shut_next.leaves image (subst (λ (n : ℕ). MayShut state n image) gate_is may) in
        record { layout = left.layout; kept = left.kept; is_root = inl left.is_root }

    pub shut_carries : (new : DiskState) → Shuts state (root_gate (not file.taken.side)) new
        → (then : CarriesWith codec file (Some (record { plan = checkpoint.plan; stage = S.Shut })) new world)
        × HoldsOn carries.layout carries.holding then.layout then.holding
    shut_carries new shuts = (
      record {
        layout = with_stale carries.layout Shut;
        holding = carries.holding;
        tells = record {
          side = carries.tells.side;
          root = carries.tells.root;
          begun = carries.tells.begun;
          goes_on = goes_stale codec carries.layout file.place.half file.place.number carries.tells.goes_on Shut;
          reached = carries.tells.reached;
        };
        between = shut_next.done new (subst (λ (n : ℕ). Shuts state n new) gate_is shuts);
        coming = carries.coming;
      },
      record { root = refl; base = refl; present = refl; coming = refl; middle = refl; far = refl },
    )

  -- the coming root is written behind it
  module _ (shut : checkpoint.stage ≡ S.Shut) where
    fill_next : FillsRoot codec carries.layout state plan world
    fill_next = fills_root codec carries.layout state world stays plan (at_stage S.Shut shut)

    pub fill_stops : (image : List ℕ) → TornFrom state (root_gate (not file.taken.side) + 1) 35 image
        → KeepsUnder codec (IsRootAt (left_of (Some checkpoint)) carries.layout carries.holding) image world
    fill_stops image torn =
        record { layout = carries.layout; kept = fill_next.leaves image (subst (λ (n : ℕ). TornFrom state (n + 1) 35 image) gate_is torn); is_root = inl (still_root carries.layout) }

    pub fill_carries : (new : DiskState) → new ≡ after_sync (after_write state (root_gate (not file.taken.side) + 1) (root_bytes checkpoint.plan.root))
        → (then : CarriesWith codec file (Some (record { plan = checkpoint.plan; stage = S.Filled })) new world)
        × HoldsOn carries.layout carries.holding then.layout then.holding
    fill_carries new is =
        let became : new ≡ after_sync (after_write state (stale_gate carries.layout + 1) (root_bytes checkpoint.plan.root)) = is ∙ ap (λ (n : ℕ). after_sync (after_write state (n + 1) (root_bytes checkpoint.plan.root))) gate_is in (
          record {
            layout = carries.layout;
            holding = carries.holding;
            tells = carries.tells;
            between = subst (λ (s : DiskState). IsBetween codec carries.layout s (Filling plan) world) (sym became) fill_next.done;
            coming = carries.coming;
          },
          record { root = refl; base = refl; present = refl; coming = refl; middle = refl; far = refl },
        )

  -- its gate is opened
  module _ (filled : checkpoint.stage ≡ S.Filled) where
    filling : IsBetween codec carries.layout state (Filling plan) world
    filling = at_stage S.Filled filled

    open_next : OpensRoot codec carries.layout state plan filling.come.1.0 world
    open_next = opens_root codec carries.layout state world stays plan filling.come.1.0 filling.come.1.1 filling

    last : left_of (Some checkpoint) ≡ 1
    last = ap (λ (stage : Stage). left_at stage (length checkpoint.plan.fresh.items)) filled

    root_then : (then : Layout codec) → IsEitherRoot carries.layout carries.holding then → IsRootAt (left_of (Some checkpoint)) carries.layout carries.holding then
    root_then then (inl same) = inl same
    root_then then (inr coming) = inr (last, coming)

    pub open_stops : (image : List ℕ) → TornFrom state (root_gate (not file.taken.side)) 1 image
        → KeepsUnder codec (IsRootAt (left_of (Some checkpoint)) carries.layout carries.holding) image world
    open_stops image torn =
        let left = open_next.leaves image (subst (λ (n : ℕ). TornFrom state n 1 image) gate_is torn) in
        record { layout = left.layout; kept = left.kept; is_root = root_then left.layout left.is_root }

    module _ (new : DiskState) (is : new ≡ after_sync (after_write state (root_gate (not file.taken.side)) (0xa5 ∷ []))) where
      became : new ≡ after_sync (after_write state (stale_gate carries.layout) (0xa5 ∷ []))
      became = is ∙ ap (λ (n : ℕ). after_sync (after_write state n (0xa5 ∷ []))) gate_is

      pub open_renews : EachImage new (TakesNewer codec carries.layout world)
      open_renews = subst (λ (s : DiskState). EachImage s (TakesNewer codec carries.layout world)) (sym became) open_next.renewed

      pub open_carries : (side : Bool) (free : FreePages) → side ≡ not file.taken.side → present_of free ≡ coming_of file.free
          → (then : CarriesWith codec
          (record {
            taken = record { side = side; root = checkpoint.plan.root };
            place = record { half = file.place.half; number = file.place.number; begun = None };
            free = free;
            buffer = file.buffer;
            codec = file.codec;
          })
          None new world)
          × HoldsRenewed carries.layout carries.holding then.layout
      open_carries side free other reclaimed =
          let lines = filling.come.1.0 in (
            record {
              layout = flipped carries.layout plan.root plan.holding lines world;
              holding = carries.holding;
              tells = record {
                side = ap not carries.tells.side ∙ sym other;
                root = refl;
                begun = none_behind carries.layout.near;
                goes_on = goes_flip codec carries.layout file.place.half file.place.number carries.tells.goes_on plan.root plan.holding lines world filling.come.1.1 filling.come.0.next;
                reached = subst (λ (marks : List Bool). Has marks (reached_of carries.holding)) (sym reclaimed) carries.coming.0;
              };
              between = subst (λ (s : DiskState). IsBetween codec (flipped carries.layout plan.root plan.holding lines world) s Resting world) (sym became) open_next.done;
              coming = tt;
            },
            record {
              present = refl;
              renewed = record {
                next = carries.coming.1 ∙ ap (λ (root : Root). root.number + 1) (sym carries.tells.root);
                base = refl;
                near = sym filling.come.1.1;
                rests = none_behind carries.layout.near;
              };
            },
          )
