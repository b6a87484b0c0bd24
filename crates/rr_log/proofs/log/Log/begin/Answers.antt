use Rattle.std.proofs.Common.{◌≡◌, ◌⊎◌, inl, inr, ◌≤◌, ◌∙◌, length, sym, ap, subst, arith}
use Rattle.rr_checkpoint.specs.declared.place.Place.{Place}
use Rattle.rr_checkpoint.specs.Checkpoint.{left_behind_first}
use Rattle.rr_checkpoint.specs.Writer as file
use Rattle.rr_pages.specs.declared.journal.half.Half.{Half}
use Rattle.rr_log.specs.Log.{place_of, ticks_left}
use Rattle.rr_checkpoint.specs.Calls.{IsRootAt, LeavesKept}
use Rattle.rr_checkpoint.proofs.Writers.{left_under}
use Rattle.rr_images.proofs.Ticks.{still_root}
use Rattle.rr_disk.proofs.MomentLemmas.{started, stays}
use Rattle.rr_images.specs.Layout.{IsSameRoot, KeepsUnder, Layout, Begun, far_lines}
use Rattle.rr_images.specs.Holding.{Holding}
use Rattle.rr_log.specs.Calls.{tables_due}
use Rattle.rr_log.specs.Carrying.{Carries, HoldsWorld, IsPlanned}
use Rattle.rr_log.specs.Lent.{lent_of}
use Rattle.rr_log.proofs.Carried.{kept_under, begun_carries, half_behind, some_behind, starts_with}
use Rattle.rr_reading.specs.Worlds.Spelling.{worlds}
use Rattle.rr_pages.specs.FreePages.{coming_of, present_of}
use Rattle.rr_checkpoint.proofs.Growing.{grows_by_pages}
use Rattle.rr_log.proofs.Growing.{grows_from, stays_long}
use Rattle.rr_log.proofs.Roots.{one_root, roots_begun, roots_still, same_root}
use Rattle.rr_log.proofs.log.Log.begin.Goals as goal

pub returns-in_err-plan-clause-stops : goal.returns-in_err-plan-clause-stops
returns-in_err-plan-clause-stops g c = λ honest world carries.
    let log = c.args.self.now in
    let same = c.plan.ensures.unchanged.disk in
    let IsRoot : Layout (worlds g.R.Rules.rules) → Type 0 = IsRootAt (ticks_left log) carries.carried.layout carries.carried.holding in
    stays (started (g.D.Disk.past log.disk) (g.D.Disk.state log.disk) (λ image. KeepsUnder (worlds g.R.Rules.rules) IsRoot image world)
    (kept_under g.R.Rules.rules log (g.D.Disk.state log.disk) world carries IsRoot (inl (still_root carries.carried.layout))))
    (ap g.D.Disk.past same) (ap g.D.Disk.state same)

pub returns-in_err-plan-clause-carries : goal.returns-in_err-plan-clause-carries
returns-in_err-plan-clause-carries g c = λ honest whole world lent carries.
    let log = c.args.self.now in
    subst (λ (disk : g.row.D.Denot). Carries g.R.Rules.rules c.plan.new.self (g.D.Disk.state disk) world) (sym c.plan.ensures.unchanged.disk)
    (c.plan.ensures.carries (g.D.Disk.state log.disk) world carries).0

pub returns-in-Ok-clause-stops : goal.returns-in-Ok-clause-stops
returns-in-Ok-clause-stops g c = λ honest world carries.
    let log = c.args.self.now in
    let codec = worlds g.R.Rules.rules in
    let planned = c.plan.new.self in
    let new = c.begin.new.disk in
    let there = subst (λ (disk : g.row.D.Denot). (then : Carries g.R.Rules.rules planned (g.D.Disk.state disk) world) × (then.carried.layout ≡ carries.carried.layout)) (sym c.plan.ensures.unchanged.disk)
    (c.plan.ensures.carries (g.D.Disk.state log.disk) world carries) in
    let starts =
    starts_with codec planned.writer (g.D.Disk.state planned.disk) world c.in_ok-plan.field-0.plan (place_of planned).begun carries.carried.layout (there.0.carried, there.1)
    (λ found.
    let plan = subst (λ (disk : g.row.D.Denot). IsPlanned g.R.Rules.rules planned c.in_ok-plan.field-0 (g.D.Disk.state disk) world carries.carried.layout (tables_due log.base (lent_of g.T.TablesInWords c.args.tables.now)).snapshots) (sym c.plan.ensures.unchanged.disk)
    (c.in_ok-plan.ensures.found (g.D.Disk.state log.disk) world (λ none. found (ap (λ (place : Place). place.begun) c.plan.ensures.unchanged.place ∙ none)) carries) in
    (plan.carries.carried, plan.may, plan.same)) in
    let IsRoot : Layout codec → Type 0 = IsRootAt (ticks_left log) carries.carried.layout carries.carried.holding in
    subst (λ (disk : g.row.D.Denot). LeavesKept codec IsRoot (g.D.Disk.past disk) (g.D.Disk.state disk) (g.D.Disk.past new) (g.D.Disk.state new) world) c.plan.ensures.unchanged.disk
    (left_under codec world (IsSameRoot starts.0.layout) IsRoot (λ layout is. inl (subst (λ (before : Layout codec). IsSameRoot before layout) starts.2 is)) (c.in-Ok.ensures.stops honest world starts.0 starts.1))

pub returns-in-Err-clause-stops : goal.returns-in-Err-clause-stops
returns-in-Err-clause-stops g c = λ honest world carries.
    let log = c.args.self.now in
    let codec = worlds g.R.Rules.rules in
    let planned = c.plan.new.self in
    let new = c.begin.new.disk in
    let there = subst (λ (disk : g.row.D.Denot). (then : Carries g.R.Rules.rules planned (g.D.Disk.state disk) world) × (then.carried.layout ≡ carries.carried.layout)) (sym c.plan.ensures.unchanged.disk)
    (c.plan.ensures.carries (g.D.Disk.state log.disk) world carries) in
    let starts =
    starts_with codec planned.writer (g.D.Disk.state planned.disk) world c.in_ok-plan.field-0.plan (place_of planned).begun carries.carried.layout (there.0.carried, there.1)
    (λ found.
    let plan = subst (λ (disk : g.row.D.Denot). IsPlanned g.R.Rules.rules planned c.in_ok-plan.field-0 (g.D.Disk.state disk) world carries.carried.layout (tables_due log.base (lent_of g.T.TablesInWords c.args.tables.now)).snapshots) (sym c.plan.ensures.unchanged.disk)
    (c.in_ok-plan.ensures.found (g.D.Disk.state log.disk) world (λ none. found (ap (λ (place : Place). place.begun) c.plan.ensures.unchanged.place ∙ none)) carries) in
    (plan.carries.carried, plan.may, plan.same)) in
    let IsRoot : Layout codec → Type 0 = IsRootAt (ticks_left log) carries.carried.layout carries.carried.holding in
    subst (λ (disk : g.row.D.Denot). LeavesKept codec IsRoot (g.D.Disk.past disk) (g.D.Disk.state disk) (g.D.Disk.past new) (g.D.Disk.state new) world) c.plan.ensures.unchanged.disk
    (left_under codec world (IsSameRoot starts.0.layout) IsRoot (λ layout is. inl (subst (λ (before : Layout codec). IsSameRoot before layout) starts.2 is)) (c.in-Err.ensures.stops honest world starts.0 starts.1))

pub returns-in-Ok-clause-carries : goal.returns-in-Ok-clause-carries
returns-in-Ok-clause-carries g c = λ honest whole world lent carries.
    let log = c.args.self.now in
    let planned = subst (λ (disk : g.row.D.Denot). IsPlanned g.R.Rules.rules c.plan.new.self c.in_ok-plan.field-0 (g.D.Disk.state disk) world carries.carried.layout (tables_due log.base (lent_of g.T.TablesInWords c.args.tables.now)).snapshots) (sym c.plan.ensures.unchanged.disk)
    (c.in_ok-plan.ensures.plan (g.D.Disk.state log.disk) world lent carries) in
    let left = some_behind (place_of c.plan.new.self).begun (length c.in_ok-plan.field-0.plan.fresh.items) (file.ticks_left_of c.begin.new.self) c.in_ok-plan.ensures.some c.in-Ok.ensures.left in
    begun_carries g.R.Rules.rules c.plan.new.self (g.D.Disk.state c.plan.new.self.disk) world planned.carries c.begin.new.disk c.begin.new.self (g.D.Disk.state c.begin.new.disk)
    c.in_ok-plan.field-0.standing planned.may.holding planned.standing (omega (arith, left)) (c.in-Ok.ensures.carries honest world planned.carries.carried planned.may)

pub returns-in-Ok-clause-starts : goal.returns-in-Ok-clause-starts
returns-in-Ok-clause-starts g c = λ honest world lent carries.
    let log = c.args.self.now in
    let codec = worlds g.R.Rules.rules in
    let planned = subst (λ (disk : g.row.D.Denot). IsPlanned g.R.Rules.rules c.plan.new.self c.in_ok-plan.field-0 (g.D.Disk.state disk) world carries.carried.layout (tables_due log.base (lent_of g.T.TablesInWords c.args.tables.now)).snapshots) (sym c.plan.ensures.unchanged.disk)
    (c.in_ok-plan.ensures.plan (g.D.Disk.state log.disk) world lent carries) in
    let left = some_behind (place_of c.plan.new.self).begun (length c.in_ok-plan.field-0.plan.fresh.items) (file.ticks_left_of c.begin.new.self) c.in_ok-plan.ensures.some c.in-Ok.ensures.left in
    let begun = c.in-Ok.ensures.carries honest world planned.carries.carried planned.may in (
      begun_carries g.R.Rules.rules c.plan.new.self (g.D.Disk.state c.plan.new.self.disk) world planned.carries c.begin.new.disk c.begin.new.self (g.D.Disk.state c.begin.new.disk)
          c.in_ok-plan.field-0.standing planned.may.holding planned.standing (omega (arith, left)) begun,
      record {
        root = begun.1.root ∙ ap (λ (l : Layout codec). l.root) planned.same;
        middle = begun.1.middle ∙ ap (λ (l : Layout codec). l.middle) planned.same;
        far = begun.1.far ∙ ap (λ (l : Layout codec). Begun (far_lines l.far)) planned.same;
      },
    )

pub returns-in_err-plan-clause-roots : goal.returns-in_err-plan-clause-roots
returns-in_err-plan-clause-roots g c = λ whole honest world lent carries.
    let log = c.args.self.now in
    let rules = g.R.Rules.rules in
    let planned = subst (λ (disk : g.row.D.Denot). (then : Carries rules c.plan.new.self (g.D.Disk.state disk) world) × (then.carried.layout ≡ carries.carried.layout)) (sym c.plan.ensures.unchanged.disk)
    (c.plan.ensures.carries (g.D.Disk.state log.disk) world carries) in (
      planned.0,
      roots_still {new = c.plan.new.self} c.plan.ensures.unchanged.left (one_root carries.carried.layout planned.0.carried.layout planned.1) (λ some. absurd (omega (arith, some, c.requires.resting)))
          (λ none. inr (c.plan.ensures.unchanged.base, ap (λ (l : Layout (worlds rules)). l.middle) planned.1)),
    )

pub returns-in-Ok-clause-roots : goal.returns-in-Ok-clause-roots
returns-in-Ok-clause-roots g c = λ whole honest world lent carries.
    let log = c.args.self.now in
    let rules = g.R.Rules.rules in
    let codec = worlds rules in
    let due = (tables_due log.base (lent_of g.T.TablesInWords c.args.tables.now)).snapshots in
    let planned = subst (λ (disk : g.row.D.Denot). IsPlanned rules c.plan.new.self c.in_ok-plan.field-0 (g.D.Disk.state disk) world carries.carried.layout due) (sym c.plan.ensures.unchanged.disk)
    (c.in_ok-plan.ensures.plan (g.D.Disk.state log.disk) world lent carries) in
    let left = some_behind (place_of c.plan.new.self).begun (length c.in_ok-plan.field-0.plan.fresh.items) (file.ticks_left_of c.begin.new.self) c.in_ok-plan.ensures.some c.in-Ok.ensures.left in
    let begun = c.in-Ok.ensures.carries honest world planned.carries.carried planned.may in (
      begun_carries rules c.plan.new.self (g.D.Disk.state c.plan.new.self.disk) world planned.carries c.begin.new.disk c.begin.new.self (g.D.Disk.state c.begin.new.disk)
          c.in_ok-plan.field-0.standing planned.may.holding planned.standing (omega (arith, left)) begun,
      roots_begun c.requires.resting (omega (arith, left))
          (same_root rules log.writer c.begin.new.self (g.D.Disk.state log.disk) (g.D.Disk.state c.begin.new.disk) world world carries.carried begun.0 (begun.1.root ∙ ap (λ (l : Layout codec). l.root) planned.same)
          (begun.1.present ∙ ap (λ (l : Layout codec). l.holding) planned.same))
          (begun.1.middle ∙ ap (λ (l : Layout codec). l.middle) planned.same) (subst (λ (h : Holding). HoldsWorld carries.carried.layout.middle due h) (sym begun.1.coming) planned.all),
    )

pub returns-in-Err-clause-roots : goal.returns-in-Err-clause-roots
returns-in-Err-clause-roots g c = λ whole honest world lent carries. absurd (cc whole)

pub returns-in-Err-clause-device : goal.returns-in-Err-clause-device
returns-in-Err-clause-device g c = λ honest world carries.
    let log = c.args.self.now in
    let codec = worlds g.R.Rules.rules in
    let planned = c.plan.new.self in
    let there = subst (λ (disk : g.row.D.Denot). (then : Carries g.R.Rules.rules planned (g.D.Disk.state disk) world) × (then.carried.layout ≡ carries.carried.layout)) (sym c.plan.ensures.unchanged.disk)
    (c.plan.ensures.carries (g.D.Disk.state log.disk) world carries) in
    let starts =
    starts_with codec planned.writer (g.D.Disk.state planned.disk) world c.in_ok-plan.field-0.plan (place_of planned).begun carries.carried.layout (there.0.carried, there.1)
    (λ found.
    let plan = subst (λ (disk : g.row.D.Denot). IsPlanned g.R.Rules.rules planned c.in_ok-plan.field-0 (g.D.Disk.state disk) world carries.carried.layout (tables_due log.base (lent_of g.T.TablesInWords c.args.tables.now)).snapshots) (sym c.plan.ensures.unchanged.disk)
    (c.in_ok-plan.ensures.found (g.D.Disk.state log.disk) world (λ none. found (ap (λ (place : Place). place.begun) c.plan.ensures.unchanged.place ∙ none)) carries) in
    (plan.carries.carried, plan.may, plan.same)) in
    c.in-Err.ensures.device honest world starts.0 starts.1

pub returns-in-Ok-clause-left : goal.returns-in-Ok-clause-left
returns-in-Ok-clause-left g c = c.in-Ok.ensures.left ∙ (λ i. left_behind_first (c.plan.ensures.unchanged.place i).begun (c.in_ok-plan.ensures.count i))

pub returns-in-Ok-clause-some : goal.returns-in-Ok-clause-some
returns-in-Ok-clause-some g c =
    let pages = length c.in_ok-plan.field-0.plan.fresh.items in
    some_behind (place_of c.plan.new.self).begun pages (file.ticks_left_of c.begin.new.self) c.in_ok-plan.ensures.some c.in-Ok.ensures.left

pub returns-in-Ok-clause-most : goal.returns-in-Ok-clause-most
returns-in-Ok-clause-most g c =
    let left = c.in-Ok.ensures.left ∙ (λ i. left_behind_first (c.plan.ensures.unchanged.place i).begun (c.in_ok-plan.ensures.count i)) in
    omega (arith, left)

pub returns-in-Ok-clause-half : goal.returns-in-Ok-clause-half
returns-in-Ok-clause-half g c =
    let pages = length c.in_ok-plan.field-0.plan.fresh.items in
    let old = (place_of c.plan.new.self).half in
    let new = (file.place_of c.begin.new.self).half in
    subst (λ (half : Half). (new ≡ half) ⊎ (4 ≤ file.ticks_left_of c.begin.new.self)) (ap (λ (place : Place). place.half) c.plan.ensures.unchanged.place)
    (half_behind (place_of c.plan.new.self).begun pages (file.ticks_left_of c.begin.new.self) old new c.in_ok-plan.ensures.some c.in-Ok.ensures.left c.in-Ok.ensures.half)

pub returns-in-Err-clause-unchanged : goal.returns-in-Err-clause-unchanged
returns-in-Err-clause-unchanged g c = λ want. elim want [ inl is ↦ absurd (cc is) | inr is ↦ absurd (cc is) ]

pub returns-in_err-plan-clause-grows : goal.returns-in_err-plan-clause-grows
returns-in_err-plan-clause-grows g c = λ honest world carries.
    stays_long g.D.Disk.file_len c.args.self.now c.plan.new.self (ap (λ (d : g.row.D.Denot). g.D.Disk.file_len d) c.plan.ensures.unchanged.disk)

pub returns-in-Ok-clause-grows : goal.returns-in-Ok-clause-grows
returns-in-Ok-clause-grows g c = λ honest world carries.
    let log = c.args.self.now in
    let codec = worlds g.R.Rules.rules in
    let planned = c.plan.new.self in
    let there = subst (λ (disk : g.row.D.Denot). (then : Carries g.R.Rules.rules planned (g.D.Disk.state disk) world) × (then.carried.layout ≡ carries.carried.layout)) (sym c.plan.ensures.unchanged.disk)
    (c.plan.ensures.carries (g.D.Disk.state log.disk) world carries) in
    let starts =
    starts_with codec planned.writer (g.D.Disk.state planned.disk) world c.in_ok-plan.field-0.plan (place_of planned).begun carries.carried.layout (there.0.carried, there.1)
    (λ found.
    let plan = subst (λ (disk : g.row.D.Denot). IsPlanned g.R.Rules.rules planned c.in_ok-plan.field-0 (g.D.Disk.state disk) world carries.carried.layout (tables_due log.base (lent_of g.T.TablesInWords c.args.tables.now)).snapshots) (sym c.plan.ensures.unchanged.disk)
    (c.in_ok-plan.ensures.found (g.D.Disk.state log.disk) world (λ none. found (ap (λ (place : Place). place.begun) c.plan.ensures.unchanged.place ∙ none)) carries) in
    (plan.carries.carried, plan.may, plan.same)) in
    let free = file.free_of c.begin.new.self in
    let disk = c.begin.new.disk in
    record {
      full = grows_from (present_of free) (coming_of free) (g.D.Disk.file_len planned.disk) (g.D.Disk.file_len log.disk) (g.D.Disk.file_len disk)
          (ap (λ (d : g.row.D.Denot). g.D.Disk.file_len d) (sym c.plan.ensures.unchanged.disk))
          (grows_by_pages (file.free_of planned.writer) free (g.D.Disk.file_len planned.disk) (g.D.Disk.file_len disk) c.in-Ok.ensures.free (c.in-Ok.ensures.grows honest world starts.0 starts.1));
      rests = λ whole none.
          let some = some_behind (place_of planned).begun (length c.in_ok-plan.field-0.plan.fresh.items) (file.ticks_left_of c.begin.new.self) c.in_ok-plan.ensures.some c.in-Ok.ensures.left in
          absurd (omega (arith, some, none));
      ends = λ some few. absurd (omega (arith, some, c.requires.resting));
      begins = λ none begun.
          c.in-Ok.ensures.same_len honest world there.0.carried (ap (λ (place : Place). place.begun) c.plan.ensures.unchanged.place ∙ begun)
          ∙ ap (λ (d : g.row.D.Denot). g.D.Disk.file_len d) c.plan.ensures.unchanged.disk;
    }

pub returns-in-Err-clause-grows : goal.returns-in-Err-clause-grows
returns-in-Err-clause-grows g c = λ honest world carries.
    let log = c.args.self.now in
    let codec = worlds g.R.Rules.rules in
    let planned = c.plan.new.self in
    let there = subst (λ (disk : g.row.D.Denot). (then : Carries g.R.Rules.rules planned (g.D.Disk.state disk) world) × (then.carried.layout ≡ carries.carried.layout)) (sym c.plan.ensures.unchanged.disk)
    (c.plan.ensures.carries (g.D.Disk.state log.disk) world carries) in
    let starts =
    starts_with codec planned.writer (g.D.Disk.state planned.disk) world c.in_ok-plan.field-0.plan (place_of planned).begun carries.carried.layout (there.0.carried, there.1)
    (λ found.
    let plan = subst (λ (disk : g.row.D.Denot). IsPlanned g.R.Rules.rules planned c.in_ok-plan.field-0 (g.D.Disk.state disk) world carries.carried.layout (tables_due log.base (lent_of g.T.TablesInWords c.args.tables.now)).snapshots) (sym c.plan.ensures.unchanged.disk)
    (c.in_ok-plan.ensures.found (g.D.Disk.state log.disk) world (λ none. found (ap (λ (place : Place). place.begun) c.plan.ensures.unchanged.place ∙ none)) carries) in
    (plan.carries.carried, plan.may, plan.same)) in
    let free = file.free_of c.begin.new.self in
    let disk = c.begin.new.disk in
    record {
      full = grows_from (present_of free) (coming_of free) (g.D.Disk.file_len planned.disk) (g.D.Disk.file_len log.disk) (g.D.Disk.file_len disk)
          (ap (λ (d : g.row.D.Denot). g.D.Disk.file_len d) (sym c.plan.ensures.unchanged.disk))
          (grows_by_pages (file.free_of planned.writer) free (g.D.Disk.file_len planned.disk) (g.D.Disk.file_len disk) c.in-Err.ensures.free (c.in-Err.ensures.grows honest world starts.0 starts.1));
      rests = λ whole none. absurd (cc whole);
      ends = λ some few. absurd (omega (arith, some, c.requires.resting));
      begins = λ none begun.
          c.in-Err.ensures.same_len honest world there.0.carried (ap (λ (place : Place). place.begun) c.plan.ensures.unchanged.place ∙ begun)
          ∙ ap (λ (d : g.row.D.Denot). g.D.Disk.file_len d) c.plan.ensures.unchanged.disk;
    }
