use Rattle.std.proofs.Common.{◌≡◌, ◌∙◌, ◌+◌, ◌<◌, ℕ, Err, inl, inr, ap, subst, sym, arith, refl}
use Rattle.rr_disk.proofs.MomentLemmas.{started, joins}
use Rattle.rr_checkpoint.specs.Calls.{IsRootAt}
use Rattle.rr_checkpoint.proofs.Writers.{left_under}
use Rattle.rr_images.specs.Layout.{IsEitherRoot, KeepsUnder, Layout}
use Rattle.rr_images.proofs.Ticks.{still_root}
use Rattle.rr_log.specs.declared.fault.Fault.{Fault}
use Rattle.rr_log.specs.declared.fault.Fault.TheVariants as F
use Rattle.rr_images.specs.Holding.{Holding}
use Rattle.rr_log.specs.Calls.{tables_due}
use Rattle.rr_log.specs.Carrying.{HoldsWorld}
use Rattle.rr_log.specs.Lent.{lent_of}
use Rattle.rr_log.specs.Fault.{IsWant}
use Rattle.rr_log.proofs.Carried.{device_more, device_so, kept_under, newer_begun, newer_under_way, never_whole, next_begun, next_under_way, ok_so, only_breaks, renews_next, root_next, takes_root}
use Rattle.rr_reading.specs.Worlds.Spelling.{worlds}
use Rattle.std.proofs.lemmas.Result.{err_from_is_err_and}
use Rattle.rr_pages.specs.FreePages.{coming_of, present_of}
use Rattle.rr_checkpoint.proofs.Growing.{grows_on}
use Rattle.rr_checkpoint.proofs.Working.{on_err}
use Rattle.rr_log.specs.Log.{free_of, is_broken, ticks_left}
use Rattle.rr_log.specs.Roots.{IsRootWithin}
use Rattle.rr_log.proofs.Growing.{err_so, grows_told}
use Rattle.rr_log.proofs.Roots.{no_step, within_begun, within_step, within_under_way}
use Rattle.rr_log.proofs.log.Log.checkpoint.Goals as goal

pub returns-then-self-clause-stops : goal.returns-then-self-clause-stops
returns-then-self-clause-stops g c = λ honest world lent carries.
    let log = c.args.self.now in
    let due = (tables_due log.base (lent_of g.T.TablesInWords c.args.tables.now)).snapshots in
    let IsRoot : Layout (worlds g.R.Rules.rules) → Type 0 = IsRootWithin log due carries.carried.layout carries.carried.holding in
    started (g.D.Disk.past log.disk) (g.D.Disk.state log.disk) (λ image. KeepsUnder (worlds g.R.Rules.rules) IsRoot image world)
    (kept_under g.R.Rules.rules log (g.D.Disk.state log.disk) world carries IsRoot (inl (still_root carries.carried.layout)))

pub returns-then-ticks_left-gt0-clause-stops : goal.returns-then-ticks_left-gt0-clause-stops
returns-then-ticks_left-gt0-clause-stops g c = λ honest world lent carries.
    let log = c.args.self.now in
    let codec = worlds g.R.Rules.rules in
    let due = (tables_due log.base (lent_of g.T.TablesInWords c.args.tables.now)).snapshots in
    let before = carries.carried.layout in
    let coming = carries.carried.holding in
    let some : 0 < ticks_left log = omega (arith, c.ticks_left.ensures, c.if-ticks_left-gt0.true) in
    left_under codec world (IsEitherRoot before coming) (IsRootWithin log due before coming) (λ layout is. within_under_way {old = log} some layout is) (c.finish.ensures.stops honest world carries)

pub returns-in_err-begin-clause-stops : goal.returns-in_err-begin-clause-stops
returns-in_err-begin-clause-stops g c = λ honest world lent carries.
    let log = c.args.self.now in
    let codec = worlds g.R.Rules.rules in
    let due = (tables_due log.base (lent_of g.T.TablesInWords c.args.tables.now)).snapshots in
    let before = carries.carried.layout in
    let coming = carries.carried.holding in
    left_under codec world (IsRootAt (ticks_left log) before coming) (IsRootWithin log due before coming) (λ layout is. within_step {old = log} layout is) (c.in_err-begin.ensures.stops honest world carries)

pub returns-then-ticks_left-gt0-clause-carries : goal.returns-then-ticks_left-gt0-clause-carries
returns-then-ticks_left-gt0-clause-carries g c = λ honest whole world lent carries. c.finish.ensures.carries honest whole world carries

pub returns-then-ticks_left-gt0-clause-renews : goal.returns-then-ticks_left-gt0-clause-renews
returns-then-ticks_left-gt0-clause-renews g c = ok_so c.finish.result _ _ (λ renews honest world lent carries. λ image is.
    newer_under_way (worlds g.R.Rules.rules) carries.carried.layout world image (renews honest world carries image is))
    c.finish.ensures.renews

pub returns-then-ticks_left-gt0-clause-whole : goal.returns-then-ticks_left-gt0-clause-whole
returns-then-ticks_left-gt0-clause-whole g c = ok_so c.finish.result _ _ (λ renewed none honest world lent carries. λ image is.
    let rules = g.R.Rules.rules in
    let log = c.args.self.now in
    let ended = c.finish.new.self in
    let then = renewed honest world carries in
    takes_root rules log (g.D.Disk.state log.disk) world carries none image
    (next_under_way (worlds rules) carries.carried.layout world image (renews_next rules ended (g.D.Disk.state ended.disk) world then.0 carries.carried.layout then.1 image is)))
    c.finish.ensures.renewed

pub returns-then-ticks_left-gt0-clause-root : goal.returns-then-ticks_left-gt0-clause-root
returns-then-ticks_left-gt0-clause-root g c = ok_so c.finish.result _ _ (λ renewed honest world lent carries.
    let log = c.args.self.now in
    let ended = c.finish.new.self in
    let then = renewed honest world carries in
    root_next g.R.Rules.rules log ended (g.D.Disk.state log.disk) (g.D.Disk.state ended.disk) world carries then.0 then.1)
    c.finish.ensures.renewed

pub returns-in_err-finish-clause-stops : goal.returns-in_err-finish-clause-stops
returns-in_err-finish-clause-stops g c = λ honest world lent carries.
    let log = c.args.self.now in
    let codec = worlds g.R.Rules.rules in
    let due = (tables_due log.base (lent_of g.T.TablesInWords c.args.tables.now)).snapshots in
    let before = carries.carried.layout in
    let coming = carries.carried.holding in
    let IsRoot : Layout codec → Type 0 = IsRootWithin log due before coming in
    let none : ticks_left log ≡ 0 = omega (arith, c.ticks_left.ensures, c.if-ticks_left-gt0.false) in
    let some : 0 < ticks_left c.begin.new.self = let left = c.in_ok-begin.ensures.some in omega (arith, left) in
    let then = c.in_err-finish.ensures.honest honest in
    let begun = c.in_ok-begin.ensures.roots c.in_ok-begin.ensures.broken then world lent carries in
    joins (left_under codec world (IsRootAt (ticks_left log) before coming) IsRoot (λ layout is. within_step {old = log} layout is) (c.in_ok-begin.ensures.stops then world carries))
    (left_under codec world (IsEitherRoot begun.0.carried.layout begun.0.carried.holding) IsRoot (λ layout is. within_begun none some begun.1 layout is) (c.in_err-finish.ensures.stops honest world begun.0))

pub returns-clause-stops : goal.returns-clause-stops
returns-clause-stops g c = λ honest world lent carries.
    let log = c.args.self.now in
    let codec = worlds g.R.Rules.rules in
    let due = (tables_due log.base (lent_of g.T.TablesInWords c.args.tables.now)).snapshots in
    let before = carries.carried.layout in
    let coming = carries.carried.holding in
    let IsRoot : Layout codec → Type 0 = IsRootWithin log due before coming in
    let none : ticks_left log ≡ 0 = omega (arith, c.ticks_left.ensures, c.if-ticks_left-gt0.false) in
    let some : 0 < ticks_left c.begin.new.self = let left = c.in_ok-begin.ensures.some in omega (arith, left) in
    let then = c.in_ok-finish.ensures.honest honest in
    let begun = c.in_ok-begin.ensures.roots c.in_ok-begin.ensures.broken then world lent carries in
    joins (left_under codec world (IsRootAt (ticks_left log) before coming) IsRoot (λ layout is. within_step {old = log} layout is) (c.in_ok-begin.ensures.stops then world carries))
    (left_under codec world (IsEitherRoot begun.0.carried.layout begun.0.carried.holding) IsRoot (λ layout is. within_begun none some begun.1 layout is) (c.in_ok-finish.ensures.stops honest world begun.0))

pub returns-clause-carries : goal.returns-clause-carries
returns-clause-carries g c = λ honest whole world lent carries.
    let then = c.in_ok-finish.ensures.honest honest in
    c.in_ok-finish.ensures.carries honest whole world (c.in_ok-begin.ensures.carries then c.in_ok-begin.ensures.broken world lent carries)

pub returns-clause-renews : goal.returns-clause-renews
returns-clause-renews g c = λ honest world lent carries. λ image is.
    let begun = c.in_ok-begin.ensures.starts (c.in_ok-finish.ensures.honest honest) world lent carries in
    newer_begun (worlds g.R.Rules.rules) carries.carried.layout begun.0.carried.layout world image begun.1 (c.in_ok-finish.ensures.renews honest world begun.0 image is)

pub returns-clause-whole : goal.returns-clause-whole
returns-clause-whole g c = λ none honest world lent carries. λ image is.
    let rules = g.R.Rules.rules in
    let log = c.args.self.now in
    let ended = c.finish-2.new.self in
    let begun = c.in_ok-begin.ensures.starts (c.in_ok-finish.ensures.honest honest) world lent carries in
    let then = c.in_ok-finish.ensures.renewed honest world begun.0 in
    takes_root rules log (g.D.Disk.state log.disk) world carries none image
    (next_begun (worlds rules) carries.carried.layout begun.0.carried.layout world image begun.1 (renews_next rules ended (g.D.Disk.state ended.disk) world then.0 begun.0.carried.layout then.1 image is))

pub returns-clause-root : goal.returns-clause-root
returns-clause-root g c = λ honest world lent carries.
    let started = c.begin.new.self in
    let ended = c.finish-2.new.self in
    let begun = c.in_ok-begin.ensures.starts (c.in_ok-finish.ensures.honest honest) world lent carries in
    let then = c.in_ok-finish.ensures.renewed honest world begun.0 in
    root_next g.R.Rules.rules started ended (g.D.Disk.state started.disk) (g.D.Disk.state ended.disk) world begun.0 then.0 then.1
    ∙ ap (λ (number : ℕ). number + 1) c.begin.ensures.root

pub returns-then-ticks_left-gt0-clause-holds : goal.returns-then-ticks_left-gt0-clause-holds
returns-then-ticks_left-gt0-clause-holds g c = ok_so c.finish.result _ _ (λ left none honest world lent carries.
    absurd (omega (arith, none, c.ticks_left.ensures, c.if-ticks_left-gt0.true)))
    c.finish.ensures.left

pub returns-clause-holds : goal.returns-clause-holds
returns-clause-holds g c = λ none honest world lent carries.
    let log = c.args.self.now in
    let due = (tables_due log.base (lent_of g.T.TablesInWords c.args.tables.now)).snapshots in
    let begun = c.in_ok-begin.ensures.roots c.in_ok-begin.ensures.broken (c.in_ok-finish.ensures.honest honest) world lent carries in
    let then = c.in_ok-finish.ensures.takes_root honest world begun.0 in
    (then.0, subst (λ (h : Holding). HoldsWorld carries.carried.layout.middle due h) (sym then.1.holding) (begun.1.begins none (omega (arith, c.in_ok-begin.ensures.some))).1)

pub returns-then-ticks_left-gt0-clause-takes_root : goal.returns-then-ticks_left-gt0-clause-takes_root
returns-then-ticks_left-gt0-clause-takes_root g c = ok_so c.finish.result _ _ (λ takes honest world lent carries.
    let then = takes honest world carries in
    (then.0, record { under_way = λ some. then.1; whole = λ none. absurd (omega (arith, none, c.ticks_left.ensures, c.if-ticks_left-gt0.true)) }))
    c.finish.ensures.takes_root

pub returns-clause-takes_root : goal.returns-clause-takes_root
returns-clause-takes_root g c = λ honest world lent carries.
    let log = c.args.self.now in
    let due = (tables_due log.base (lent_of g.T.TablesInWords c.args.tables.now)).snapshots in
    let begun = c.in_ok-begin.ensures.roots c.in_ok-begin.ensures.broken (c.in_ok-finish.ensures.honest honest) world lent carries in
    let then = c.in_ok-finish.ensures.takes_root honest world begun.0 in (
      then.0,
      record {
        under_way = λ some. absurd (omega (arith, some, c.ticks_left.ensures, c.if-ticks_left-gt0.false));
        whole = λ none.
            let starts = begun.1.begins none (omega (arith, c.in_ok-begin.ensures.some)) in
            (then.1.base ∙ starts.0, subst (λ (h : Holding). HoldsWorld carries.carried.layout.middle due h) (sym then.1.holding) starts.1);
      },
    )

pub returns-then-self-clause-roots : goal.returns-then-self-clause-roots
returns-then-self-clause-roots g c = λ whole honest world lent carries. (carries, no_step)

pub returns-then-ticks_left-gt0-clause-roots : goal.returns-then-ticks_left-gt0-clause-roots
returns-then-ticks_left-gt0-clause-roots g c =
    err_so c.finish.result _ _ (λ never whole honest world lent carries. absurd (never whole)) (never_whole c.finish.result (is_broken c.finish.new.self) c.finish.ensures.err c.finish.ensures.broken)

pub returns-in_err-begin-clause-roots : goal.returns-in_err-begin-clause-roots
returns-in_err-begin-clause-roots g c = on_err c.from_residual.result (λ whole honest world lent carries. c.in_err-begin.ensures.roots whole honest world lent carries)

pub returns-in_err-finish-clause-roots : goal.returns-in_err-finish-clause-roots
returns-in_err-finish-clause-roots g c =
    on_err c.from_residual-in_err-finish.result
    (λ whole honest world lent carries. absurd (only_breaks c.in_err-finish.ensures.err (sym c.in_err-finish.ensures.broken ∙ whole)))

pub returns-then-ticks_left-gt0-clause-device : goal.returns-then-ticks_left-gt0-clause-device
returns-then-ticks_left-gt0-clause-device g c =
    device_more c.finish.result (λ device honest world lent carries. device honest world carries) c.finish.ensures.device

pub returns-in_err-begin-clause-device : goal.returns-in_err-begin-clause-device
returns-in_err-begin-clause-device g c =
    let told = err_from_is_err_and c.from_residual.result c.from_residual.ensures.1 in
    device_so (Unit {0}) c.from_residual.result c.in_err-begin.field-0.0 (told.1 ∙ ap (λ f. Err f) told.2)
    (λ device honest world lent carries. device honest world carries) c.in_err-begin.ensures.device

pub returns-in_err-finish-clause-device : goal.returns-in_err-finish-clause-device
returns-in_err-finish-clause-device g c =
    let told = err_from_is_err_and c.from_residual-in_err-finish.result c.from_residual-in_err-finish.ensures.1 in
    device_so (Unit {0}) c.from_residual-in_err-finish.result c.in_err-finish.field-0.0 (told.1 ∙ ap (λ f. Err f) told.2)
    (λ device honest world lent carries.
    device honest world (c.in_ok-begin.ensures.carries (c.in_err-finish.ensures.honest honest) c.in_ok-begin.ensures.broken world lent carries))
    c.in_err-finish.ensures.device

never_wanted : (fault : Fault) → fault ≡ F.DeviceFailed → IsWant fault → ⊥
never_wanted fault failed (inl full) = let both : F.FileFull ≡ F.DeviceFailed = sym full ∙ failed in cc both
never_wanted fault failed (inr memory) = let both : F.OutOfMemory ≡ F.DeviceFailed = sym memory ∙ failed in cc both

pub returns-in_err-finish-clause-unchanged : goal.returns-in_err-finish-clause-unchanged
returns-in_err-finish-clause-unchanged g c =
    let told = err_from_is_err_and c.from_residual-in_err-finish.result c.from_residual-in_err-finish.ensures.1 in
    rw (told.1, told.2) (λ want. absurd (never_wanted c.in_err-finish.field-0.0 c.in_err-finish.ensures.err want))

pub returns-then-ticks_left-gt0-clause-grows : goal.returns-then-ticks_left-gt0-clause-grows
returns-then-ticks_left-gt0-clause-grows g c = ok_so c.finish.result _ _ (λ told honest world lent carries.
    let log = c.args.self.now in
    let ended = c.finish.new.self in
    grows_told (present_of (free_of log)) (coming_of (free_of log)) (present_of (free_of log)) (present_of (free_of ended)) (g.D.Disk.file_len log.disk) (g.D.Disk.file_len ended.disk) refl told.present
    (c.finish.ensures.grows honest world carries))
    c.finish.ensures.frees

pub returns-then-ticks_left-gt0-clause-grows_so_far : goal.returns-then-ticks_left-gt0-clause-grows_so_far
returns-then-ticks_left-gt0-clause-grows_so_far g c = err_so c.finish.result _ _ (λ told honest world lent carries.
    let log = c.args.self.now in
    let ended = c.finish.new.self in
    grows_told (present_of (free_of log)) (coming_of (free_of log)) (present_of (free_of log)) (coming_of (free_of ended)) (g.D.Disk.file_len log.disk) (g.D.Disk.file_len ended.disk) refl (ap coming_of told)
    (c.finish.ensures.grows honest world carries))
    c.finish.ensures.same_free

pub returns-in_err-begin-clause-grows_so_far : goal.returns-in_err-begin-clause-grows_so_far
returns-in_err-begin-clause-grows_so_far g c =
    on_err c.from_residual.result
    (λ honest world lent carries.
    let log = c.args.self.now in
    let begun = c.begin.new.self in
    grows_told (present_of (free_of begun)) (coming_of (free_of begun)) (present_of (free_of log)) (coming_of (free_of begun)) (g.D.Disk.file_len log.disk) (g.D.Disk.file_len begun.disk) (sym c.in_err-begin.ensures.pages) refl
    (c.in_err-begin.ensures.grows honest world carries).full)

pub returns-in_err-finish-clause-grows_so_far : goal.returns-in_err-finish-clause-grows_so_far
returns-in_err-finish-clause-grows_so_far g c =
    on_err c.from_residual-in_err-finish.result
    (λ honest world lent carries.
    let log = c.args.self.now in
    let begun = c.begin.new.self in
    let ended = c.finish-2.new.self in
    let then = c.in_err-finish.ensures.honest honest in
    grows_told (present_of (free_of begun)) (coming_of (free_of begun)) (present_of (free_of log)) (coming_of (free_of ended)) (g.D.Disk.file_len log.disk) (g.D.Disk.file_len ended.disk) (sym c.in_ok-begin.ensures.pages) (ap coming_of c.in_err-finish.ensures.same_free)
    (grows_on (present_of (free_of begun)) (coming_of (free_of begun)) (g.D.Disk.file_len log.disk) (g.D.Disk.file_len begun.disk) (g.D.Disk.file_len ended.disk) (c.in_ok-begin.ensures.grows then world carries).full
    (c.in_err-finish.ensures.grows honest world (c.in_ok-begin.ensures.carries then c.in_ok-begin.ensures.broken world lent carries))))

pub returns-clause-grows : goal.returns-clause-grows
returns-clause-grows g c = λ honest world lent carries.
    let log = c.args.self.now in
    let begun = c.begin.new.self in
    let ended = c.finish-2.new.self in
    let then = c.in_ok-finish.ensures.honest honest in
    grows_told (present_of (free_of begun)) (coming_of (free_of begun)) (present_of (free_of log)) (present_of (free_of ended)) (g.D.Disk.file_len log.disk) (g.D.Disk.file_len ended.disk) (sym c.in_ok-begin.ensures.pages) c.in_ok-finish.ensures.frees.present
    (grows_on (present_of (free_of begun)) (coming_of (free_of begun)) (g.D.Disk.file_len log.disk) (g.D.Disk.file_len begun.disk) (g.D.Disk.file_len ended.disk) (c.in_ok-begin.ensures.grows then world carries).full
    (c.in_ok-finish.ensures.grows honest world (c.in_ok-begin.ensures.carries then c.in_ok-begin.ensures.broken world lent carries)))

pub returns-then-ticks_left-gt0-clause-reclaims : goal.returns-then-ticks_left-gt0-clause-reclaims
returns-then-ticks_left-gt0-clause-reclaims g c = ok_so c.finish.result _ _ (λ told some. told) c.finish.ensures.frees

pub returns-then-ticks_left-gt0-clause-same_free : goal.returns-then-ticks_left-gt0-clause-same_free
returns-then-ticks_left-gt0-clause-same_free g c = err_so c.finish.result _ _ (λ told some. told) c.finish.ensures.same_free

pub returns-in_err-begin-clause-same_free : goal.returns-in_err-begin-clause-same_free
returns-in_err-begin-clause-same_free g c = on_err c.from_residual.result (λ some. absurd (omega (arith, some, c.ticks_left.ensures, c.if-ticks_left-gt0.false)))

pub returns-in_err-finish-clause-same_free : goal.returns-in_err-finish-clause-same_free
returns-in_err-finish-clause-same_free g c = on_err c.from_residual-in_err-finish.result (λ some. absurd (omega (arith, some, c.ticks_left.ensures, c.if-ticks_left-gt0.false)))

pub returns-clause-reclaims : goal.returns-clause-reclaims
returns-clause-reclaims g c = λ some. absurd (omega (arith, some, c.ticks_left.ensures, c.if-ticks_left-gt0.false))
