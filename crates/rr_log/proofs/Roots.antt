-- What becomes of the roots of a log.
use Rattle.std.proofs.Common.{◌≡◌, ◌⊎◌, inl, inr, ℕ, ◌+◌, ◌<◌, List, length, Option, None, Some, refl, sym, ◌∙◌, ap, subst, arith}
use Rattle.std.proofs.lemmas.Bool.{cases_eq}
use Rattle.rr_disk.specs.Disk.{DiskState}
use Rattle.rr_images.specs.Codec.{Codec}
use Rattle.rr_images.specs.Holding.{Holding, texts_of}
use Rattle.rr_images.specs.Layout.{IsComingRoot, IsEitherRoot, IsSameRoot, Layout, FarHalf, Unused, Old, Begun, KeepsAt}
use Rattle.rr_images.specs.Progress.{HasCome, IsBegun, Plan}
use Rattle.rr_images.specs.Steps.{with_line_at}
use Rattle.rr_images.proofs.Commits.{settled_may_stay}
use Rattle.rr_pages.specs.declared.root.Root.{Root}
use Rattle.rr_checkpoint.specs.declared.checkpoint.Checkpoint.{Checkpoint}
use Rattle.rr_checkpoint.specs.declared.checkpoint.Stage.{Stage}
use Rattle.rr_checkpoint.specs.declared.checkpoint.Stage.TheVariants as S
use Rattle.rr_checkpoint.specs.declared.writer.Tick.{Tick}
use Rattle.rr_checkpoint.specs.declared.writer.Tick.TheVariants.{Idle, More, Done}
use Rattle.rr_checkpoint.specs.declared.writer.Writer.{Writer}
use Rattle.rr_checkpoint.specs.Calls.{IsRootAt}
use Rattle.rr_checkpoint.specs.Checkpoint.{left_of, plan_of, come_to, progress_of}
use Rattle.rr_checkpoint.specs.Holds.{HoldsAt, HoldsWithRecord, RestsAt}
use Rattle.rr_checkpoint.specs.OpenFile.{IsBegunAt}
use Rattle.rr_checkpoint.specs.Writer as file
use Rattle.rr_checkpoint.specs.Writer.{Lowers}
use Rattle.rr_log.specs.declared.log.Log.{Log}
use Rattle.rr_log.specs.Carrying.{Carries, HoldsWorld, IsBase}
use Rattle.rr_log.specs.Log.{place_of, ticks_left}
use Rattle.rr_log.specs.Roots.{IsRootWithin, KeepsRoots}
use Rattle.rr_log.proofs.Carried.{done_carries, more_carries}
use Rattle.rr_reading.specs.declared.worlds.rules.Worlds.{Worlds}
use Rattle.rr_reading.specs.Worlds.Spelling.{Spells, worlds}
use Rattle.rr_reading.specs.Worlds.World.{Snapshot, World, WorldRules}
use Rattle.rr_reading.proofs.WorldLemmas.Exact.{one_world}

-- roots of one version with the same chains spell one world
one_base : (rules : WorldRules) (old new : Layout (worlds rules)) (file image : List ℕ) (world next : World) → KeepsAt (worlds rules) old file world → KeepsAt (worlds rules) new image next
    → new.root ≡ old.root → new.holding ≡ old.holding → new.base ≡ old.base
one_base rules old new file image world next before after root holding =
    one_world rules old.root.version old.holding.directory.text (texts_of old.holding.chains) new.base old.base
    (subst (λ (h : Holding). Spells rules old.root.version h.directory.text (texts_of h.chains) new.base) holding
    (subst (λ (r : Root). Spells rules r.version new.holding.directory.text (texts_of new.holding.chains) new.base) root after.spelled.spells))
    before.spelled.spells

-- what is carried before a call and behind it has one root
pub same_root : {C : Type 0} (rules : WorldRules) (old new : Writer C) (before after : DiskState) (world next : World) (carries : file.Carries (worlds rules) old before world) (then : file.Carries (worlds rules) new after next)
    → then.layout.root ≡ carries.layout.root → then.layout.holding ≡ carries.layout.holding → IsSameRoot carries.layout then.layout
same_root rules old new before after world next carries then root holding =
    record {
      root = root;
      base = one_base rules carries.layout then.layout before.settled after.settled world next (carries.between.each before.settled (settled_may_stay before)) (then.between.each after.settled (settled_may_stay after)) root holding;
      holding = holding;
    }

module _ {D R : Type 0} {rules : WorldRules} {old new : Log D R} {due : List Snapshot} {before : Layout (worlds rules)} {coming : Holding} {after : Layout (worlds rules)} {coming_after : Holding} where
  -- behind a step that is neither the first nor the last
  pub roots_on : 0 < ticks_left old → 0 < ticks_left new → IsSameRoot before after → after.middle ≡ before.middle → coming_after ≡ coming → KeepsRoots old new due before coming after coming_after
  roots_on some left root middle holding =
      record {
        stays = λ never. root;
        takes = λ one none. absurd (omega (arith, left, none));
        goes_on = λ under_way more. (middle, holding);
        begins = λ none more. absurd (omega (arith, some, none));
        rests = λ none. absurd (omega (arith, left, none));
      }

  -- behind the last one
  pub roots_last : ticks_left old ≡ 1 → ticks_left new ≡ 0 → IsComingRoot before coming after → new.base ≡ None → KeepsRoots old new due before coming after coming_after
  roots_last one none taken no_base =
      record {
        stays = λ never. absurd (never one none);
        takes = λ last ended. taken;
        goes_on = λ under_way more. absurd (omega (arith, none, more));
        begins = λ resting more. absurd (omega (arith, none, more));
        rests = λ ended. inl no_base;
      }

  -- behind the first one
  pub roots_begun : ticks_left old ≡ 0 → 0 < ticks_left new → IsSameRoot before after → after.middle ≡ before.middle → HoldsWorld before.middle due coming_after → KeepsRoots old new due before coming after coming_after
  roots_begun none left root middle holds =
      record {
        stays = λ never. root;
        takes = λ one ended. absurd (omega (arith, left, ended));
        goes_on = λ under_way more. absurd (omega (arith, none, under_way));
        begins = λ resting more. (middle, holds);
        rests = λ ended. absurd (omega (arith, left, ended));
      }

  -- behind a call that is no step
  pub roots_still : ticks_left new ≡ ticks_left old → IsSameRoot before after → (0 < ticks_left old → (after.middle ≡ before.middle) × (coming_after ≡ coming))
      → (ticks_left old ≡ 0 → (new.base ≡ None) ⊎ ((new.base ≡ old.base) × (after.middle ≡ before.middle))) → KeepsRoots old new due before coming after coming_after
  roots_still left root goes_on rests =
      record {
        stays = λ never. root;
        takes = λ one none. absurd (omega (arith, left, one, none));
        goes_on = λ under_way more. goes_on under_way;
        begins = λ none more. absurd (omega (arith, left, none, more));
        rests = λ none.
            let rested : ticks_left old ≡ 0 = sym left ∙ none in
            elim (rests rested) [ inl gone ↦ inl gone | inr same ↦ inr (rested, same.0, same.1) ];
      }

-- a step of the checkpoint under way
module _ {D R : Type 0} (rules : WorldRules) (log : Log D R) (state : DiskState) (world : World) (carries : Carries rules log state world) (disk : D) (new : Writer (Worlds R)) (after : DiskState) (due : List Snapshot) where
  pub ticked_roots : (tick : Tick) → 0 < ticks_left log → Lowers tick (ticks_left log) (file.ticks_left_of new) → RestsAt tick (file.place_of new).begun
      → (then : file.Carries (worlds rules) new after world) × HoldsAt tick carries.carried.layout carries.carried.holding then.layout then.holding
      → (then : Carries rules (record log { disk = disk; writer = new }) after world)
      × KeepsRoots log (record log { disk = disk; writer = new }) due carries.carried.layout carries.carried.holding then.carried.layout then.carried.holding
  ticked_roots Idle some lowers rests then = absurd (omega (arith, some, lowers.0))
  ticked_roots More some lowers rests then = (
    more_carries rules log state world carries disk new after some lowers.1 then,
    roots_on some lowers.1 (same_root rules log.writer new state after world world carries.carried then.0 then.1.root then.1.present) then.1.middle then.1.coming,
  )
  ticked_roots Done some lowers rests then = (
    done_carries rules log state world carries disk new after some lowers.1 rests (then.0, then.1.present),
    roots_last lowers.0 lowers.1 (record { base = then.1.renewed.base; holding = then.1.present }) (carries.no_base some),
  )

-- a call that leaves all
pub no_step : {D R : Type 0} {rules : WorldRules} {log : Log D R} {due : List Snapshot} {layout : Layout (worlds rules)} {coming : Holding} → KeepsRoots log log due layout coming layout coming
no_step = roots_still refl (record { root = refl; base = refl; holding = refl }) (λ some. (refl, refl)) (λ none. inr (refl, refl))

pub still_roots : {D R : Type 0} (rules : WorldRules) (log : Log D R) (state : D → DiskState) (world : World) (due : List Snapshot) (disk : D) (new : Writer (Worlds R)) → disk ≡ log.disk → new ≡ log.writer
    → (carries : Carries rules log (state log.disk) world)
    → (then : Carries rules (record log { disk = disk; writer = new }) (state disk) world)
    × KeepsRoots log (record log { disk = disk; writer = new }) due carries.carried.layout carries.carried.holding then.carried.layout then.carried.holding
still_roots {D} {R} rules log state world due disk new is same carries =
    subst (λ (p : D × Writer (Worlds R)). (then : Carries rules (record log { disk = p.0; writer = p.1 }) (state p.0) world)
    × KeepsRoots log (record log { disk = p.0; writer = p.1 }) due carries.carried.layout carries.carried.holding then.carried.layout then.carried.holding)
    (λ i. (sym is i, sym same i)) (carries, no_step)

-- layouts that are the same have one root
pub one_root : {rules : WorldRules} (old new : Layout (worlds rules)) → new ≡ old → IsSameRoot old new
one_root {rules} old new same =
    record {
      root = ap (λ (l : Layout (worlds rules)). l.root) same;
      base = ap (λ (l : Layout (worlds rules)). l.base) same;
      holding = ap (λ (l : Layout (worlds rules)). l.holding) same;
    }

-- while a checkpoint is under way records go to the other half
stage_begun : (codec : Codec) (layout : Layout codec) (state : DiskState) (stage : Stage) (plan : Plan) → HasCome codec layout state (come_to stage plan) → IsBegun layout.far
stage_begun codec layout state (S.Writing written) plan come = come.1
stage_begun codec layout state S.Shut plan come = come.1
stage_begun codec layout state S.Filled plan come = come.1

far_begun : (codec : Codec) (layout : Layout codec) (state : DiskState) (checkpoint : Option Checkpoint) (holding : Holding) → 0 < left_of checkpoint → HasCome codec layout state (progress_of checkpoint holding) → IsBegun layout.far
far_begun codec layout state None holding some come = absurd (omega (arith, some))
far_begun codec layout state (Some checkpoint) holding some come = stage_begun codec layout state checkpoint.stage (plan_of checkpoint.plan holding) come

-- a record leaves the root and what its chains spell
line_root : (codec : Codec) (layout : Layout codec) (far : FarHalf) (line : List ℕ) (world : codec.World) → (with_line_at layout far line world).root ≡ layout.root
line_root codec layout Unused line world = refl
line_root codec layout Old line world = refl
line_root codec layout (Begun lines) line world = refl

line_base : (codec : Codec) (layout : Layout codec) (far : FarHalf) (line : List ℕ) (world : codec.World) → (with_line_at layout far line world).base ≡ layout.base
line_base codec layout Unused line world = refl
line_base codec layout Old line world = refl
line_base codec layout (Begun lines) line world = refl

-- and what is kept for a checkpoint that an opening found begun
record_rests : {D R : Type 0} (rules : WorldRules) (log new : Log D R) (state : DiskState) (world : World) (carries : Carries rules log state world) (line : List ℕ) (next : World) (layout : Layout (worlds rules)) (coming : Holding)
    → new.base ≡ log.base → HoldsWithRecord carries.carried.layout carries.carried.holding line next layout coming → (begun : Option ℕ) → (place_of log).begun ≡ begun → ticks_left log ≡ 0
    → (new.base ≡ None) ⊎ ((new.base ≡ log.base) × (layout.middle ≡ carries.carried.layout.middle))
record_rests rules log new state world carries line next layout coming same holds None is none =
    inl (same ∙ subst (λ (b : Option ℕ). IsBase rules b log.base carries.carried.layout.middle) is (carries.base none))
record_rests rules log new state world carries line next layout coming same holds (Some first) is none =
    let before = carries.carried.layout in
    let begun : IsBegunAt (Some first) (before.root.first + length before.near) before.far = subst (λ (b : Option ℕ). IsBegunAt b (before.root.first + length before.near) before.far) is carries.carried.tells.begun in
    inr (same, holds.middle begun.0)

pub record_roots : {D R : Type 0} {due : List Snapshot} (rules : WorldRules) (log new : Log D R) (state : DiskState) (world : World) (carries : Carries rules log state world) (line : List ℕ) (next : World) (layout : Layout (worlds rules)) (coming : Holding)
    → ticks_left new ≡ ticks_left log → new.base ≡ log.base → HoldsWithRecord carries.carried.layout carries.carried.holding line next layout coming → KeepsRoots log new due carries.carried.layout carries.carried.holding layout coming
record_roots rules log new state world carries line next layout coming left same holds =
    let codec = worlds rules in
    let before = carries.carried.layout in
    roots_still left
    (record {
      root = ap (λ (l : Layout codec). l.root) holds.layout ∙ line_root codec before before.far line next;
      base = ap (λ (l : Layout codec). l.base) holds.layout ∙ line_base codec before before.far line next;
      holding = holds.present;
    })
    (λ some. (holds.middle (far_begun codec before state log.writer.checkpoint carries.carried.holding some carries.carried.between.come), holds.coming))
    (record_rests rules log new state world carries line next layout coming same holds (place_of log).begun refl)

-- two calls that leave the root
same_twice : {rules : WorldRules} {before then after : Layout (worlds rules)} → IsSameRoot before then → IsSameRoot then after → IsSameRoot before after
same_twice first second = record { root = second.root ∙ first.root; base = second.base ∙ first.base; holding = second.holding ∙ first.holding }

-- within a call behind a step the root is the one from before that, or the one that the last step took
pub root_behind : {D R : Type 0} {rules : WorldRules} {old new : Log D R} {due : List Snapshot} {before : Layout (worlds rules)} {coming : Holding} {after : Layout (worlds rules)} {coming_after : Holding}
    → KeepsRoots old new due before coming after coming_after → (then : Layout (worlds rules)) → IsSameRoot after then → IsRootAt (ticks_left old) before coming then
root_behind {old = old} {new = new} keeps then same = elim (cases_eq (ticks_left old) 1) [
  | inl one ↦ elim (cases_eq (ticks_left new) 0) [
    | inl none ↦
        let taken = keeps.takes one none in
        inr (one, record { base = same.base ∙ taken.base; holding = same.holding ∙ taken.holding })
    | inr some ↦ inl (same_twice (keeps.stays (λ last none. some none)) same)
  ]
  | inr more ↦ inl (same_twice (keeps.stays (λ last none. more last)) same)
]

-- within a whole checkpoint it is the one from before, or the one that it takes
module _ {D R : Type 0} {rules : WorldRules} {old : Log D R} {due : List Snapshot} {before : Layout (worlds rules)} {coming : Holding} where
  pub within_under_way : 0 < ticks_left old → (then : Layout (worlds rules)) → IsEitherRoot before coming then → IsRootWithin old due before coming then
  within_under_way some then (inl same) = inl same
  within_under_way some then (inr taken) = inr (record { under_way = λ more. taken; whole = λ none. absurd (omega (arith, some, none)) })

  pub within_step : (then : Layout (worlds rules)) → IsRootAt (ticks_left old) before coming then → IsRootWithin old due before coming then
  within_step then (inl same) = inl same
  within_step then (inr last) =
      let one = last.0 in
      inr (record { under_way = λ some. last.1; whole = λ none. absurd (omega (arith, none, one)) })

  pub within_begun : {begun : Log D R} {after : Layout (worlds rules)} {coming_after : Holding} → ticks_left old ≡ 0 → 0 < ticks_left begun
      → KeepsRoots old begun due before coming after coming_after → (then : Layout (worlds rules)) → IsEitherRoot after coming_after then → IsRootWithin old due before coming then
  within_begun none some keeps then (inl same) = inl (same_twice (keeps.stays (λ one ended. omega (arith, none, one))) same)
  within_begun none some keeps then (inr taken) =
      let begins = keeps.begins none some in
      inr (record {
        under_way = λ more. absurd (omega (arith, more, none));
        whole = λ rests. (taken.base ∙ begins.0, subst (λ (h : Holding). HoldsWorld before.middle due h) (sym taken.holding) begins.1);
      })

-- a record behind a step
pub then_record : {D R : Type 0} {rules : WorldRules} {old ticked new : Log D R} {due : List Snapshot} {before then after : Layout (worlds rules)} {coming coming_then coming_after : Holding}
    → KeepsRoots old ticked due before coming then coming_then → KeepsRoots ticked new due then coming_then after coming_after → ticks_left new ≡ ticks_left ticked → KeepsRoots old new due before coming after coming_after
then_record {due = due} {before = before} first second left =
    let same = second.stays (λ one none. omega (arith, left, one, none)) in
    record {
      stays = λ never. same_twice (first.stays (λ one none. never one (left ∙ none))) same;
      takes = λ one none.
          let taken = first.takes one (sym left ∙ none) in
          record { base = same.base ∙ taken.base; holding = same.holding ∙ taken.holding };
      goes_on = λ some more.
          let goes = first.goes_on some (omega (arith, more, left)) in
          let on = second.goes_on (omega (arith, more, left)) more in
          (on.0 ∙ goes.0, on.1 ∙ goes.1);
      begins = λ none more.
          let begun = first.begins none (omega (arith, more, left)) in
          let on = second.goes_on (omega (arith, more, left)) more in
          (on.0 ∙ begun.0, subst (λ (h : Holding). HoldsWorld before.middle due h) (sym on.1) begun.1);
      rests = λ none. elim (second.rests none) [
        | inl gone ↦ inl gone
        | inr same ↦ elim (first.rests same.0) [ inl gone ↦ inl (same.1 ∙ gone) | inr still ↦ inr (still.0, same.1 ∙ still.1, same.2 ∙ still.2) ]
      ];
    }
