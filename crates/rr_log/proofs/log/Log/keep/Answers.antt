use Rattle.std.proofs.Common.{◌≡◌, ◌⊎◌, inl, inr, ◌+◌, ◌∙◌, Err, length, refl, sym, ap, subst, arith}
use Rattle.std.proofs.lemmas.Result.{err_from_is_err_and}
use Rattle.rr_disk.proofs.MomentLemmas.{started, joins, weaker}
use Rattle.rr_images.specs.Calls.{TakesNewer}
use Rattle.rr_checkpoint.specs.Calls.{IsRootAt}
use Rattle.rr_checkpoint.proofs.Writers.{either_under}
use Rattle.rr_images.specs.Layout.{IsSameRoot, KeepsUnder, Layout}
use Rattle.rr_images.proofs.Ticks.{still_root}
use Rattle.rr_images.specs.Steps.{with_line}
use Rattle.rr_log.specs.Carrying.{Carries}
use Rattle.rr_log.specs.Lent.{lent_of}
use Rattle.rr_log.specs.declared.fault.Fault.TheVariants as F
use Rattle.rr_log.proofs.Carried.{full_on, is_full, is_put_off, kept_under, no_more_room, only_breaks, renewed_line, renews_now, renews_refused, same_count, same_disk, same_images, told_behind}
use Rattle.rr_reading.specs.Worlds.Spelling.{worlds}
use Rattle.rr_reading.specs.Worlds.World.{World}
use Rattle.rr_log.specs.Log.{place_of, ticks_left}
use Rattle.rr_log.proofs.Growing.{kept_grows, kept_pages, pages_still, stays_long}
use Rattle.rr_log.proofs.PuttingOff.{kept_on}
use Rattle.rr_log.proofs.Roots.{no_step, root_behind, then_record}
use Rattle.rr_log.specs.Calls.{tables_due}
use Rattle.rr_log.specs.PuttingOff.{reason_of}
use Rattle.rr_log.specs.Roots.{KeepsRoots}
use Rattle.rr_log.proofs.log.Log.keep.Goals as goal

pub returns-then-self-clause-stops : goal.returns-then-self-clause-stops
returns-then-self-clause-stops g c = λ honest old new takes same lent carries.
    let log = c.args.self.now in
    let codec = worlds g.R.Rules.rules in
    let IsRoot : Layout codec → Type 0 = IsRootAt (ticks_left log) carries.carried.layout carries.carried.holding in
    started (g.D.Disk.past log.disk) (g.D.Disk.state log.disk) (λ image. KeepsUnder codec IsRoot image old ⊎ KeepsUnder codec IsRoot image new)
    (λ image is. inl (kept_under g.R.Rules.rules log (g.D.Disk.state log.disk) old carries IsRoot (inl (still_root carries.carried.layout)) image is))

pub returns-then-is_past_last-clause-stops : goal.returns-then-is_past_last-clause-stops
returns-then-is_past_last-clause-stops g c = λ honest old new takes same lent carries.
    let log = c.args.self.now in
    let codec = worlds g.R.Rules.rules in
    let IsRoot : Layout codec → Type 0 = IsRootAt (ticks_left log) carries.carried.layout carries.carried.holding in
    started (g.D.Disk.past log.disk) (g.D.Disk.state log.disk) (λ image. KeepsUnder codec IsRoot image old ⊎ KeepsUnder codec IsRoot image new)
    (λ image is. inl (kept_under g.R.Rules.rules log (g.D.Disk.state log.disk) old carries IsRoot (inl (still_root carries.carried.layout)) image is))

pub returns-in_err-full-clause-stops : goal.returns-in_err-full-clause-stops
returns-in_err-full-clause-stops g c = λ honest old new takes same lent carries.
    let codec = worlds g.R.Rules.rules in
    let IsRoot : Layout codec → Type 0 = IsRootAt (ticks_left c.args.self.now) carries.carried.layout carries.carried.holding in
    weaker (c.in_err-full.ensures.stops honest old carries) (λ image. KeepsUnder codec IsRoot image old ⊎ KeepsUnder codec IsRoot image new) (λ image keeps. inl keeps)

pub returns-in_err-append-clause-stops : goal.returns-in_err-append-clause-stops
returns-in_err-append-clause-stops g c = λ honest old new takes same lent carries.
    let codec = worlds g.R.Rules.rules in
    let then = c.in_err-append.ensures.honest honest in
    let IsRoot : Layout codec → Type 0 = IsRootAt (ticks_left c.args.self.now) carries.carried.layout carries.carried.holding in
    let ticked = c.in_ok-full.ensures.roots c.in_ok-full.ensures.broken then old lent carries in
    joins (weaker (c.in_ok-full.ensures.stops then old carries) (λ image. KeepsUnder codec IsRoot image old ⊎ KeepsUnder codec IsRoot image new) (λ image keeps. inl keeps))
    (either_under codec old new (IsSameRoot ticked.0.carried.layout) IsRoot (λ layout is. root_behind ticked.1 layout is) (c.in_err-append.ensures.stops honest old new takes ticked.0))

pub returns-in_err-append-clause-carries : goal.returns-in_err-append-clause-carries
returns-in_err-append-clause-carries g c = λ honest whole old new takes same lent carries.
    let then = c.in_err-append.ensures.honest honest in
    let told = err_from_is_err_and c.from_residual-in_err-append.result c.from_residual-in_err-append.ensures.1 in
    subst (λ (world : World). Carries g.R.Rules.rules c.append.new.self (g.D.Disk.state c.append.new.self.disk) world) (sym (told_behind c.from_residual-in_err-append.result told.0 old new told.1))
    (c.in_err-append.ensures.carries honest whole old new takes same (c.in_ok-full.ensures.carries then c.in_ok-full.ensures.broken old lent carries))

pub returns-clause-stops : goal.returns-clause-stops
returns-clause-stops g c = λ honest old new takes same lent carries.
    let codec = worlds g.R.Rules.rules in
    let then = c.in_ok-append.ensures.honest honest in
    let IsRoot : Layout codec → Type 0 = IsRootAt (ticks_left c.args.self.now) carries.carried.layout carries.carried.holding in
    let ticked = c.in_ok-full.ensures.roots c.in_ok-full.ensures.broken then old lent carries in
    joins (weaker (c.in_ok-full.ensures.stops then old carries) (λ image. KeepsUnder codec IsRoot image old ⊎ KeepsUnder codec IsRoot image new) (λ image keeps. inl keeps))
    (either_under codec old new (IsSameRoot ticked.0.carried.layout) IsRoot (λ layout is. root_behind ticked.1 layout is) (c.in_ok-append.ensures.stops honest old new takes ticked.0))

pub returns-clause-carries : goal.returns-clause-carries
returns-clause-carries g c = λ honest whole old new takes same lent carries.
    let then = c.in_ok-append.ensures.honest honest in
    c.in_ok-append.ensures.carries honest whole old new takes same (c.in_ok-full.ensures.carries then c.in_ok-full.ensures.broken old lent carries)

pub returns-in_err-append-clause-full : goal.returns-in_err-append-clause-full
returns-in_err-append-clause-full g c = λ half.
    let told = err_from_is_err_and c.from_residual-in_err-append.result c.from_residual-in_err-append.ensures.1 in
    let is : c.in_err-append.field-0.0 ≡ F.HalfFull = cc (told.1, told.2, half) in
    let same = is_put_off c.in_err-append.field-0.0 c.in_ok-full.full F.HalfFull c.in_err-append.ensures.err is (λ failed. cc failed) in
    no_more_room (place_of c.tick_before.new.self).half.next_slot (place_of c.args.self.now).half.next_slot (length c.args.line.now) c.tick_before.ensures.slots
    (c.in_err-append.ensures.full (ap (λ f. Err f) same))

pub returns-in_err-append-clause-full_file : goal.returns-in_err-append-clause-full_file
returns-in_err-append-clause-full_file g c = λ full.
    let told = err_from_is_err_and c.from_residual-in_err-append.result c.from_residual-in_err-append.ensures.1 in
    let is : c.in_err-append.field-0.0 ≡ F.FileFull = cc (told.1, told.2, full) in
    let same = is_put_off c.in_err-append.field-0.0 c.in_ok-full.full F.FileFull c.in_err-append.ensures.err is (λ failed. cc failed) in
    full_on c.tick_before.new.self c.append.new.self (lent_of g.T.TablesInWords c.args.tables.now) (length c.args.line.now)
    (c.in_err-append.ensures.same (ap (λ f. Err f) same)) (c.in_err-append.ensures.full (ap (λ f. Err f) same)) (c.in_ok-full.ensures.full_file (sym same ∙ is))

pub returns-in_err-append-clause-memory : goal.returns-in_err-append-clause-memory
returns-in_err-append-clause-memory g c = λ wanted.
    let told = err_from_is_err_and c.from_residual-in_err-append.result c.from_residual-in_err-append.ensures.1 in
    let is : c.in_err-append.field-0.0 ≡ F.OutOfMemory = cc (told.1, told.2, wanted) in
    let same = is_put_off c.in_err-append.field-0.0 c.in_ok-full.full F.OutOfMemory c.in_err-append.ensures.err is (λ failed. cc failed) in
    c.in_ok-full.ensures.want (inr (sym same ∙ is))

pub returns-then-self-clause-renews : goal.returns-then-self-clause-renews
returns-then-self-clause-renews g c = λ whole one none honest old new takes same carries. absurd (omega (arith, one, none))

pub returns-then-is_past_last-clause-renews : goal.returns-then-is_past_last-clause-renews
returns-then-is_past_last-clause-renews g c = λ whole one none honest old new takes same carries. absurd (omega (arith, one, none))

pub returns-in_err-full-clause-renews : goal.returns-in_err-full-clause-renews
returns-in_err-full-clause-renews g c = λ whole one none honest old new takes same carries. absurd (only_breaks c.in_err-full.ensures.err (sym c.in_err-full.ensures.broken ∙ whole))

pub returns-in_err-append-clause-renews : goal.returns-in_err-append-clause-renews
returns-in_err-append-clause-renews g c = λ whole one none honest old new takes same carries.
    let codec = worlds g.R.Rules.rules in
    let ticked = c.tick_before.new.self in
    let told = err_from_is_err_and c.from_residual-in_err-append.result c.from_residual-in_err-append.ensures.1 in
    let unchanged = c.in_err-append.ensures.same (ap (λ f. Err f) (is_full c.in_err-append.ensures.err (sym c.in_err-append.ensures.broken ∙ whole))) in
    let renewed = c.in_ok-full.ensures.renewed c.in_ok-full.ensures.broken one (c.in_err-append.ensures.honest honest) old carries in
    renews_refused g.R.Rules.rules c.from_residual-in_err-append.result told.0 told.1 carries.carried.layout c.args.line.now old new (g.D.Disk.state c.append.new.self.disk)
    (same_images g.D.Disk.state (TakesNewer codec carries.carried.layout old) ticked c.append.new.self unchanged
    (renews_now g.R.Rules.rules ticked (g.D.Disk.state ticked.disk) old renewed.0 carries.carried.layout renewed.1))

pub returns-clause-renews : goal.returns-clause-renews
returns-clause-renews g c = λ whole one none honest old new takes same carries.
    let codec = worlds g.R.Rules.rules in
    let line = c.args.line.now in
    let renewed = c.in_ok-full.ensures.renewed c.in_ok-full.ensures.broken one (c.in_ok-append.ensures.honest honest) old carries in
    let appended = c.in_ok-append.ensures.appends honest old new takes same renewed.0 in
    renews_now g.R.Rules.rules c.append.new.self (g.D.Disk.state c.append.new.self.disk) new appended.0 (with_line carries.carried.layout line new)
    (renewed_line codec carries.carried.layout renewed.0.carried.layout appended.0.carried.layout line new appended.1 renewed.1)

pub returns-then-self-clause-roots : goal.returns-then-self-clause-roots
returns-then-self-clause-roots g c = λ whole honest old new takes same lent carries. (carries, no_step)

pub returns-then-is_past_last-clause-roots : goal.returns-then-is_past_last-clause-roots
returns-then-is_past_last-clause-roots g c = λ whole honest old new takes same lent carries. (carries, no_step)

pub returns-in_err-full-clause-roots : goal.returns-in_err-full-clause-roots
returns-in_err-full-clause-roots g c = λ whole honest old new takes same lent carries. absurd (only_breaks c.in_err-full.ensures.err (sym c.in_err-full.ensures.broken ∙ whole))

pub returns-in_err-append-clause-roots : goal.returns-in_err-append-clause-roots
returns-in_err-append-clause-roots g c = λ whole honest old new takes same lent carries.
    let rules = g.R.Rules.rules in
    let log = c.args.self.now in
    let due = (tables_due log.base (lent_of g.T.TablesInWords c.args.tables.now)).snapshots in
    let told = err_from_is_err_and c.from_residual-in_err-append.result c.from_residual-in_err-append.ensures.1 in
    let ticked = c.in_ok-full.ensures.roots c.in_ok-full.ensures.broken (c.in_err-append.ensures.honest honest) old lent carries in
    let refused = c.in_err-append.ensures.roots whole honest due old new takes same ticked.0 in
    subst (λ (world : World). (then : Carries rules c.append.new.self (g.D.Disk.state c.append.new.self.disk) world)
    × KeepsRoots log c.append.new.self due carries.carried.layout carries.carried.holding then.carried.layout then.carried.holding)
    (sym (told_behind c.from_residual-in_err-append.result told.0 old new told.1)) (refused.0, then_record ticked.1 refused.1 c.in_err-append.ensures.left)

pub returns-clause-roots : goal.returns-clause-roots
returns-clause-roots g c = λ whole honest old new takes same lent carries.
    let due = (tables_due c.args.self.now.base (lent_of g.T.TablesInWords c.args.tables.now)).snapshots in
    let ticked = c.in_ok-full.ensures.roots c.in_ok-full.ensures.broken (c.in_ok-append.ensures.honest honest) old lent carries in
    let kept = c.in_ok-append.ensures.roots whole honest due old new takes same ticked.0 in
    (kept.0, then_record ticked.1 kept.1 c.in_ok-append.ensures.left)

pub returns-in_err-append-clause-tick_writes : goal.returns-in_err-append-clause-tick_writes
returns-in_err-append-clause-tick_writes g c = λ half.
    let told = err_from_is_err_and c.from_residual-in_err-append.result c.from_residual-in_err-append.ensures.1 in
    let is : c.in_err-append.field-0.0 ≡ F.HalfFull = cc (told.1, told.2, half) in
    let same = is_put_off c.in_err-append.field-0.0 c.in_ok-full.full F.HalfFull c.in_err-append.ensures.err is (λ failed. cc failed) in
    same_count g.D.Disk.write_count c.tick_before.new.self c.append.new.self (g.D.Disk.write_count c.args.self.now.disk + 1) (c.in_err-append.ensures.same (ap (λ f. Err f) same)) c.tick_before.ensures.writes

pub returns-in_err-append-clause-tick_syncs : goal.returns-in_err-append-clause-tick_syncs
returns-in_err-append-clause-tick_syncs g c = λ half.
    let told = err_from_is_err_and c.from_residual-in_err-append.result c.from_residual-in_err-append.ensures.1 in
    let is : c.in_err-append.field-0.0 ≡ F.HalfFull = cc (told.1, told.2, half) in
    let same = is_put_off c.in_err-append.field-0.0 c.in_ok-full.full F.HalfFull c.in_err-append.ensures.err is (λ failed. cc failed) in
    same_count g.D.Disk.sync_count c.tick_before.new.self c.append.new.self (g.D.Disk.sync_count c.args.self.now.disk + 1) (c.in_err-append.ensures.same (ap (λ f. Err f) same)) c.tick_before.ensures.syncs

pub returns-in_err-full-clause-nothing : goal.returns-in_err-full-clause-nothing
returns-in_err-full-clause-nothing g c =
    let told = err_from_is_err_and c.from_residual.result c.from_residual.ensures.1 in
    rw told.1 (λ whole none left. absurd (only_breaks c.in_err-full.ensures.err (sym c.in_err-full.ensures.broken ∙ whole)))

pub returns-in_err-append-clause-nothing : goal.returns-in_err-append-clause-nothing
returns-in_err-append-clause-nothing g c =
    let told = err_from_is_err_and c.from_residual-in_err-append.result c.from_residual-in_err-append.ensures.1 in
    rw told.1 (λ whole none left.
    same_disk c.tick_before.new.self c.append.new.self (c.in_err-append.ensures.same (ap (λ f. Err f) (is_full c.in_err-append.ensures.err (sym c.in_err-append.ensures.broken ∙ whole))))
    ∙ c.in_ok-full.ensures.nothing c.in_ok-full.ensures.broken none (sym c.in_err-append.ensures.left ∙ left))

pub returns-in_err-full-clause-grows : goal.returns-in_err-full-clause-grows
returns-in_err-full-clause-grows g c = λ honest world lent carries. c.in_err-full.ensures.grows honest world carries

pub returns-in_err-append-clause-grows : goal.returns-in_err-append-clause-grows
returns-in_err-append-clause-grows g c = λ honest world lent carries.
    let then = c.in_err-append.ensures.honest honest in
    kept_grows g.D.Disk.file_len c.args.self.now c.append.new.self c.tick_before.new.self (c.in_ok-full.ensures.grows then world carries) c.in_ok-full.ensures.broken
    (c.in_err-append.ensures.same_len honest world (c.in_ok-full.ensures.carries then c.in_ok-full.ensures.broken world lent carries)) c.in_err-append.ensures.free c.in_err-append.ensures.left

pub returns-clause-grows : goal.returns-clause-grows
returns-clause-grows g c = λ honest world lent carries.
    let then = c.in_ok-append.ensures.honest honest in
    kept_grows g.D.Disk.file_len c.args.self.now c.append.new.self c.tick_before.new.self (c.in_ok-full.ensures.grows then world carries) c.in_ok-full.ensures.broken
    (c.in_ok-append.ensures.same_len honest world (c.in_ok-full.ensures.carries then c.in_ok-full.ensures.broken world lent carries)) c.in_ok-append.ensures.free c.in_ok-append.ensures.left

pub returns-then-self-clause-grows : goal.returns-then-self-clause-grows
returns-then-self-clause-grows g c = λ honest world lent carries. let log = c.args.self.now in stays_long g.D.Disk.file_len log log refl

pub returns-then-is_past_last-clause-grows : goal.returns-then-is_past_last-clause-grows
returns-then-is_past_last-clause-grows g c = λ honest world lent carries. let log = c.args.self.now in stays_long g.D.Disk.file_len log log refl

pub returns-then-self-clause-pages : goal.returns-then-self-clause-pages
returns-then-self-clause-pages g c = let log = c.args.self.now in pages_still log log refl (λ one none whole. omega (arith, one, none))

pub returns-then-is_past_last-clause-pages : goal.returns-then-is_past_last-clause-pages
returns-then-is_past_last-clause-pages g c = let log = c.args.self.now in pages_still log log refl (λ one none whole. omega (arith, one, none))

pub returns-in_err-append-clause-pages : goal.returns-in_err-append-clause-pages
returns-in_err-append-clause-pages g c =
    kept_pages c.args.self.now c.append.new.self c.tick_before.new.self c.in_ok-full.ensures.pages c.in_ok-full.ensures.broken c.in_err-append.ensures.free c.in_err-append.ensures.left

pub returns-clause-pages : goal.returns-clause-pages
returns-clause-pages g c =
    kept_pages c.args.self.now c.append.new.self c.tick_before.new.self c.in_ok-full.ensures.pages c.in_ok-full.ensures.broken c.in_ok-append.ensures.free c.in_ok-append.ensures.left

pub returns-clause-begins_due : goal.returns-clause-begins_due
returns-clause-begins_due g c =
    rw c.reason.ensures (kept_on c.args.self.now c.tick_before.new.self (lent_of g.T.TablesInWords c.args.tables.now) c.append.new.self (reason_of c.in_ok-full.full) c.in_ok-append.ensures.left c.in_ok-full.ensures.begins_due)
