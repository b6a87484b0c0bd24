-- What the calls of a writer say, by those on its file.
use Rattle.std.proofs.Common.{◌≡◌, ◌⊎◌, ◌+◌, ◌<◌, ℕ, inl, inr, Bool, true, false, List, length, Option, None, Some, refl, sym, ◌∙◌, ap, subst, arith}
use Rattle.std.specs.Option.{is_some}
use Rattle.rr_disk.specs.Disk.{DiskState}
use Rattle.rr_disk.specs.Moments.{EachImage, LeavesOnly}
use Rattle.rr_disk.proofs.MomentLemmas.{weaker}
use Rattle.rr_pages.specs.declared.choosing.Taken.{Taken}
use Rattle.rr_pages.specs.declared.free_pages.FreePages.{FreePages}
use Rattle.rr_pages.specs.declared.root.Root.{Root}
use Rattle.rr_pages.specs.FreePages.{present_of}
use Rattle.rr_pages.specs.Sets.{Has}
use Rattle.rr_images.specs.Calls.{TakesNewer}
use Rattle.rr_images.specs.Codec.{Codec, Replays}
use Rattle.rr_images.specs.Holding.{Holding, reached_of}
use Rattle.rr_images.specs.Layout.{Layout, FarHalf, Unused, Old, Begun, far_lines, IsEitherRoot, IsSameRoot, KeepsAt, Keeps, KeepsUnder}
use Rattle.rr_images.specs.Progress.{IsNotBegun, IsBetween}
use Rattle.rr_images.proofs.Commits.{settled_may_stay}
use Rattle.rr_checkpoint.specs.declared.checkpoint.Checkpoint.{Checkpoint}
use Rattle.rr_checkpoint.specs.declared.checkpoint.Plan.{Plan}
use Rattle.rr_checkpoint.specs.declared.checkpoint.Stage.{Stage}
use Rattle.rr_checkpoint.specs.declared.checkpoint.Stage.TheVariants as S
use Rattle.rr_checkpoint.specs.declared.open_file.OpenFile.{OpenFile}
use Rattle.rr_checkpoint.specs.declared.writer.Tick.{Tick}
use Rattle.rr_checkpoint.specs.declared.writer.Tick.TheVariants.{Idle, More, Done}
use Rattle.rr_checkpoint.specs.Calls.{IsRootAt, LeavesEither, LeavesKept, Renews, StaysTaken}
use Rattle.rr_checkpoint.specs.Checkpoint.{progress_of, left_at, left_behind_first, left_of}
use Rattle.rr_checkpoint.specs.Holds.{HoldsOn, HoldsAsBegun, HoldsBehind, HoldsRenewed, HoldsAt, RestsBehind, RestsAt}
use Rattle.rr_checkpoint.specs.OpenFile.{IsBegunAt, HasComing, CarriesWith}
use Rattle.rr_checkpoint.specs.Planning.{MayBegin, MayStart}
use Rattle.rr_checkpoint.specs.Writer.{Lowers, RenewsAt, StaysTakenAt, told_at}

-- the same of a checkpoint that is told otherwise
abbrev pub carries_same : {C : Type 0} (codec : Codec) (file : OpenFile C) (state : DiskState) (world : codec.World) (checkpoint other : Option Checkpoint) → checkpoint ≡ other
    → CarriesWith codec file checkpoint state world → CarriesWith codec file other state world
carries_same codec file state world checkpoint other is carries =
    record {
      layout = carries.layout;
      holding = carries.holding;
      tells = carries.tells;
      between = subst (λ (c : Option Checkpoint). IsBetween codec carries.layout state (progress_of c carries.holding) world) is carries.between;
      coming = subst (λ (c : Option Checkpoint). HasComing file.free file.taken.root.number c carries.holding) is carries.coming;
    }

some_left : (stage : Stage) (pages : ℕ) → 0 < left_at stage pages
some_left (S.Writing written) pages = omega arith
some_left S.Shut pages = omega arith
some_left S.Filled pages = omega arith

pub none_left : (checkpoint : Option Checkpoint) → left_of checkpoint ≡ 0 → checkpoint ≡ None
none_left None none = refl
none_left (Some checkpoint) none = let some = some_left checkpoint.stage (length checkpoint.plan.fresh.items) in absurd (omega (arith, some, none))

-- a checkpoint under way has ticks left
pub never_none : (checkpoint : Option Checkpoint) (there : Checkpoint) → checkpoint ≡ Some there → left_of checkpoint ≡ 0 → ⊥
never_none checkpoint there is none =
    let some = some_left there.stage (length there.plan.fresh.items) in
    let left : left_of (Some there) ≡ 0 = subst (λ (c : Option Checkpoint). left_of c ≡ 0) is none in
    omega (arith, some, left)

pub renews_told : (codec : Codec) (layout : Layout codec) (next : Option Checkpoint) (new : DiskState) (world : codec.World) → Renews codec layout next new world → RenewsAt codec (told_at next) layout new world
renews_told codec layout None new world renews = renews
renews_told codec layout (Some checkpoint) new world renews = tt

pub left_some : (checkpoint : Option Checkpoint) → is_some checkpoint ≡ true → 0 < left_of checkpoint
left_some None some = absurd (cc)
left_some (Some checkpoint) some = some_left checkpoint.stage (length checkpoint.plan.fresh.items)

pub lowers_one : (tick : Tick) (old new : ℕ) → Lowers tick old new → 0 < old → old ≡ new + 1
lowers_one Idle old new lowers some = absurd (omega (arith, lowers.0, some))
lowers_one More old new lowers some = lowers.0
lowers_one Done old new lowers some = omega (arith, lowers.0, lowers.1)

-- where no checkpoint is under way, the pages that are taken for one may change
pub carries_freed : {C : Type 0} (codec : Codec) (file : OpenFile C) (checkpoint : Option Checkpoint) (free : FreePages) → left_of checkpoint ≡ 0 → present_of free ≡ present_of file.free
    → (state : DiskState) (world : codec.World) (carries : CarriesWith codec file checkpoint state world)
    → (then : CarriesWith codec (record { taken = file.taken; place = file.place; free = free; buffer = file.buffer; codec = file.codec }) checkpoint state world) × (then.layout ≡ carries.layout)
carries_freed codec file checkpoint free none present state world carries = (
  record {
    layout = carries.layout;
    holding = carries.holding;
    tells = record {
      side = carries.tells.side;
      root = carries.tells.root;
      begun = carries.tells.begun;
      goes_on = carries.tells.goes_on;
      reached = subst (λ (marks : List Bool). Has marks (reached_of carries.layout.holding)) (sym present) carries.tells.reached;
    };
    between = carries.between;
    coming = subst (λ (c : Option Checkpoint). HasComing free file.taken.root.number c carries.holding) (sym (none_left checkpoint none)) tt;
  },
  refl,
)

-- each file that a stop may leave now keeps the world that is carried
pub carried_kept : {C : Type 0} (codec : Codec) (file : OpenFile C) (checkpoint : Option Checkpoint) (state : DiskState) (world : codec.World) → CarriesWith codec file checkpoint state world → EachImage state (λ image. Keeps codec image world)
carried_kept codec file checkpoint state world carries = λ image is. record { layout = carries.layout; kept = carries.between.each image is }

-- with no record in the other half the next root's base is the world itself
middle_is : (codec : Codec) (layout : Layout codec) (file : List ℕ) (world : codec.World) (far : FarHalf) → layout.far ≡ far → IsNotBegun far → KeepsAt codec layout file world → layout.middle ≡ world
middle_is codec layout file world Unused is none kept = subst (λ (half : FarHalf). Replays codec layout.middle (far_lines half) world) is kept.far_replayed
middle_is codec layout file world Old is none kept = subst (λ (half : FarHalf). Replays codec layout.middle (far_lines half) world) is kept.far_replayed
middle_is codec layout file world (Begun lines) is none kept = absurd none

pub base_is_carried : {C : Type 0} (codec : Codec) (file : OpenFile C) (checkpoint : Option Checkpoint) (state : DiskState) (world : codec.World) (carries : CarriesWith codec file checkpoint state world)
    → file.place.begun ≡ None → carries.layout.middle ≡ world
base_is_carried codec file checkpoint state world carries none =
    let number = carries.layout.root.first + length carries.layout.near in
    middle_is codec carries.layout state.settled world carries.layout.far refl
    (subst (λ (begun : Option ℕ). IsBegunAt begun number carries.layout.far) none carries.tells.begun) (carries.between.each state.settled (settled_may_stay state))

pub none_is_left : (checkpoint : Option Checkpoint) → is_some checkpoint ≡ false → left_of checkpoint ≡ 0
none_is_left None none = refl
none_is_left (Some checkpoint) none = absurd (cc)

-- the root that is taken, as a tick tells it
pub taken_told : (next : Option Checkpoint) (old new : Taken) → StaysTaken next old new → StaysTakenAt (told_at next) old new
taken_told None old new stays = tt
taken_told (Some checkpoint) old new stays = stays

-- the last one renews the root, also of a layout from before it
pub renewed_behind : (codec : Codec) (tick : Tick) (left rest : ℕ) (layout then : Layout codec) (coming coming_then : Holding) (new : DiskState) (world : codec.World) → Lowers tick left rest → 0 < left → rest ≡ 0
    → HoldsOn layout coming then coming_then → RenewsAt codec tick then new world → EachImage new (TakesNewer codec layout world)
renewed_behind codec Idle left rest layout then coming coming_then new world lowers some none on renews = absurd (omega (arith, lowers.0, some))
renewed_behind codec More left rest layout then coming coming_then new world lowers some none on renews = absurd (omega (arith, lowers.1, none))
renewed_behind codec Done left rest layout then coming coming_then new world lowers some none on renews = λ image is.
    let takes = renews image is in
    record {
      stands = takes.stands;
      newer = subst (λ (root : Root). root.number < takes.stands.root.number) on.root takes.newer;
      base = takes.base ∙ on.middle;
      near = takes.near ∙ on.far;
      nothing_far = takes.nothing_far;
    }

-- what the roots hold, as a tick tells it
pub holds_told : {codec : Codec} (next : Option Checkpoint) (old : Layout codec) (coming_old : Holding) (new : Layout codec) (coming_new : Holding)
    → HoldsBehind next old coming_old new coming_new → HoldsAt (told_at next) old coming_old new coming_new
holds_told None old coming_old new coming_new holds = holds
holds_told (Some checkpoint) old coming_old new coming_new holds = holds

-- and after so many ticks of those that were left
pub record HoldsSoFar {codec : Codec} (left rest : ℕ) (old : Layout codec) (coming_old : Holding) (new : Layout codec) (coming_new : Holding) : Type 0 where
  pub under_way : 0 < rest → HoldsOn old coming_old new coming_new
  pub done : 0 < left → rest ≡ 0 → HoldsRenewed old coming_old new

pub holds_at_first : {codec : Codec} (left : ℕ) (layout : Layout codec) (coming : Holding) → HoldsSoFar left left layout coming layout coming
holds_at_first left layout coming =
    record { under_way = λ some. record { root = refl; base = refl; present = refl; coming = refl; middle = refl; far = refl }; done = λ some none. absurd (omega (arith, some, none)) }

holds_twice : {codec : Codec} (old : Layout codec) (coming_old : Holding) (then : Layout codec) (coming_then : Holding) (new : Layout codec) (coming_new : Holding)
    → HoldsOn old coming_old then coming_then → HoldsOn then coming_then new coming_new → HoldsOn old coming_old new coming_new
holds_twice old coming_old then coming_then new coming_new first second =
    record {
      root = second.root ∙ first.root;
      base = second.base ∙ first.base;
      present = second.present ∙ first.present;
      coming = second.coming ∙ first.coming;
      middle = second.middle ∙ first.middle;
      far = second.far ∙ first.far;
    }

-- the root within a later step is one from before the others, or the one that was coming then
pub root_before : {codec : Codec} (left : ℕ) (old : Layout codec) (coming_old : Holding) (then : Layout codec) (coming_then : Holding) (new : Layout codec)
    → HoldsOn old coming_old then coming_then → IsRootAt left then coming_then new → IsEitherRoot old coming_old new
root_before left old coming_old then coming_then new on (inl same) = inl (record { root = same.root ∙ on.root; base = same.base ∙ on.base; holding = same.holding ∙ on.present })
root_before left old coming_old then coming_then new on (inr last) = inr (record { base = last.1.base ∙ on.middle; holding = last.1.holding ∙ on.coming })

-- and within a first one that isn't the last it is the one from before
pub root_begun : {codec : Codec} (left : ℕ) (old : Layout codec) (coming_old : Holding) (then : Layout codec) (coming_then : Holding) (new : Layout codec)
    → 1 < left → HoldsAsBegun old coming_old then coming_then → IsRootAt left then coming_then new → IsSameRoot old new
root_begun left old coming_old then coming_then new more begun (inl same) = record { root = same.root ∙ begun.root; base = same.base ∙ begun.base; holding = same.holding ∙ begun.present }
root_begun left old coming_old then coming_then new more begun (inr last) = absurd (omega (arith, more, last.0))

-- what a stop leaves under such a root it leaves under any root that this is
pub left_under : (codec : Codec) {past_old : List DiskState} {old : DiskState} {past_new : List DiskState} {new : DiskState} (world : codec.World) (IsRoot IsOther : Layout codec → Type 0)
    → ((layout : Layout codec) → IsRoot layout → IsOther layout) → LeavesKept codec IsRoot past_old old past_new new world → LeavesKept codec IsOther past_old old past_new new world
left_under codec world IsRoot IsOther is stops =
    weaker stops (λ image. KeepsUnder codec IsOther image world) (λ image left. record { layout = left.layout; kept = left.kept; is_root = is left.layout left.is_root })

pub either_under : (codec : Codec) {past_old : List DiskState} {old : DiskState} {past_new : List DiskState} {new : DiskState} (before behind : codec.World) (IsRoot IsOther : Layout codec → Type 0)
    → ((layout : Layout codec) → IsRoot layout → IsOther layout) → LeavesEither codec IsRoot past_old old past_new new before behind
    → LeavesEither codec IsOther past_old old past_new new before behind
either_under codec before behind IsRoot IsOther is stops =
    weaker stops (λ image. KeepsUnder codec IsOther image before ⊎ KeepsUnder codec IsOther image behind) (λ image left. elim left [
      | inl kept ↦ inl (record { layout = kept.layout; kept = kept.kept; is_root = is kept.layout kept.is_root })
      | inr kept ↦ inr (record { layout = kept.layout; kept = kept.kept; is_root = is kept.layout kept.is_root })
    ])

-- and it keeps the world
pub left_kept : (codec : Codec) {past_old : List DiskState} {old : DiskState} {past_new : List DiskState} {new : DiskState} (world : codec.World) (IsRoot : Layout codec → Type 0)
    → LeavesKept codec IsRoot past_old old past_new new world → LeavesOnly past_old old past_new new (λ image. Keeps codec image world)
left_kept codec world IsRoot stops = weaker stops (λ image. Keeps codec image world) (λ image left. record { layout = left.layout; kept = left.kept })

pub either_kept : (codec : Codec) {past_old : List DiskState} {old : DiskState} {past_new : List DiskState} {new : DiskState} (before behind : codec.World) (IsRoot : Layout codec → Type 0)
    → LeavesEither codec IsRoot past_old old past_new new before behind → LeavesOnly past_old old past_new new (λ image. Keeps codec image before ⊎ Keeps codec image behind)
either_kept codec before behind IsRoot stops =
    weaker stops (λ image. Keeps codec image before ⊎ Keeps codec image behind) (λ image left. elim left [
      | inl kept ↦ inl (record { layout = kept.layout; kept = kept.kept })
      | inr kept ↦ inr (record { layout = kept.layout; kept = kept.kept })
    ])

-- the last step renews the root from before the others too
holds_renewed : {codec : Codec} (old : Layout codec) (coming_old : Holding) (then : Layout codec) (coming_then : Holding) (new : Layout codec)
    → HoldsOn old coming_old then coming_then → HoldsRenewed then coming_then new → HoldsRenewed old coming_old new
holds_renewed old coming_old then coming_then new on renews =
    record {
      present = renews.present ∙ on.coming;
      renewed = record {
        next = renews.renewed.next ∙ ap (λ (root : Root). root.number + 1) on.root;
        base = renews.renewed.base ∙ on.middle;
        near = renews.renewed.near ∙ on.far;
        rests = renews.renewed.rests;
      };
    }

-- a checkpoint that was found begun holds, behind its first step, what it was to hold
pub begun_on : {codec : Codec} (next : Option Checkpoint) (pages : ℕ) (old : Layout codec) (coming : Holding) (then : Layout codec) (coming_then : Holding) (new : Layout codec) (coming_new : Holding)
    → pages + 3 ≡ left_of next + 1 → HoldsAsBegun old coming then coming_then → HoldsBehind next then coming_then new coming_new → HoldsAsBegun old coming new coming_new
begun_on None pages old coming then coming_then new coming_new left begun on = absurd (omega (arith, left))
begun_on (Some checkpoint) pages old coming then coming_then new coming_new left begun on =
    record {
      root = on.root ∙ begun.root;
      base = on.base ∙ begun.base;
      present = on.present ∙ begun.present;
      coming = on.coming ∙ begun.coming;
      middle = on.middle ∙ begun.middle;
      far = on.far ∙ begun.far;
    }

-- and the root that was taken is taken
pub begun_taken : (next : Option Checkpoint) (pages : ℕ) (old new : Taken) → pages + 3 ≡ left_of next + 1 → StaysTaken next old new → new ≡ old
begun_taken None pages old new left stays = absurd (omega (arith, left))
begun_taken (Some checkpoint) pages old new left stays = stays

-- the plan of a checkpoint that is found begun is one for the layout
pub found_may : (codec : Codec) (layout : Layout codec) (free : FreePages) (begun : Option ℕ) (plan : Plan) → is_some begun ≡ true → MayStart codec layout free begun plan → MayBegin codec layout free plan
found_may codec layout free None plan some may = absurd (cc)
found_may codec layout free (Some first) plan some may = may

pub found_none : (begun : Option ℕ) → is_some begun ≡ true → begun ≡ None → ⊥
found_none None some none = cc some
found_none (Some first) some none = cc none

-- how many ticks its first one leaves
pub left_found : (begun : Option ℕ) (pages : ℕ) → is_some begun ≡ true → left_behind_first begun pages ≡ pages + 2
left_found None pages some = absurd (cc)
left_found (Some first) pages some = refl

pub holds_more : {codec : Codec} (tick : Tick) (left rest new_rest : ℕ) (old : Layout codec) (coming_old : Holding) (then : Layout codec) (coming_then : Holding) (new : Layout codec) (coming_new : Holding)
    → 0 < rest → Lowers tick rest new_rest → HoldsSoFar left rest old coming_old then coming_then → HoldsAt tick then coming_then new coming_new
    → HoldsSoFar left new_rest old coming_old new coming_new
holds_more Idle left rest new_rest old coming_old then coming_then new coming_new some lowers so_far holds = absurd (omega (arith, some, lowers.0))
holds_more More left rest new_rest old coming_old then coming_then new coming_new some lowers so_far holds =
    record {
      under_way = λ more. holds_twice old coming_old then coming_then new coming_new (so_far.under_way some) holds;
      done = λ some_left none. absurd (omega (arith, none, lowers.1));
    }
holds_more Done left rest new_rest old coming_old then coming_then new coming_new some lowers so_far holds =
    record {
      under_way = λ more. absurd (omega (arith, more, lowers.1));
      done = λ some_left none. holds_renewed old coming_old then coming_then new (so_far.under_way some) holds;
    }

-- the last of the ticks that were left is the one that rests
pub rests_behind : (tick : Tick) (left rest : ℕ) (begun : Option ℕ) → Lowers tick left rest → 0 < left → rest ≡ 0 → RestsAt tick begun → begun ≡ None
rests_behind Idle left rest begun lowers some none rests = absurd (omega (arith, lowers.0, some))
rests_behind More left rest begun lowers some none rests = absurd (omega (arith, lowers.1, none))
rests_behind Done left rest begun lowers some none rests = rests

pub rests_told : (next : Option Checkpoint) (begun : Option ℕ) → RestsBehind next begun → RestsAt (told_at next) begun
rests_told None begun rests = rests
rests_told (Some checkpoint) begun rests = rests
