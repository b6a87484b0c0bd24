use Rattle.std.proofs.Common.{◌∙◌, inl, refl, sym, arith}
use Rattle.rr_disk.proofs.MomentLemmas.{started}
use Rattle.rr_checkpoint.specs.Calls.{IsRootAt}
use Rattle.rr_images.specs.Layout.{KeepsUnder, Layout}
use Rattle.rr_images.proofs.Ticks.{still_root}
use Rattle.rr_log.specs.Log.{ticks_left}
use Rattle.rr_log.proofs.Carried.{is_want, kept_under}
use Rattle.rr_log.proofs.Growing.{pages_resting, stays_long}
use Rattle.rr_log.proofs.Roots.{no_step}
use Rattle.rr_log.specs.Calls.{tables_due}
use Rattle.rr_log.specs.Lent.{lent_of}
use Rattle.rr_reading.specs.Worlds.Spelling.{worlds}
use Rattle.rr_log.proofs.log.Log.step.Goals as goal

pub returns-then-ticks_left-gt0-clause-carries : goal.returns-then-ticks_left-gt0-clause-carries
returns-then-ticks_left-gt0-clause-carries g c = λ honest whole world lent carries. c.go_on.ensures.carries honest whole world carries

pub returns-then-not-is_due-clause-stops : goal.returns-then-not-is_due-clause-stops
returns-then-not-is_due-clause-stops g c = λ honest world carries.
    let log = c.args.self.now in
    let IsRoot : Layout (worlds g.R.Rules.rules) → Type 0 = IsRootAt (ticks_left log) carries.carried.layout carries.carried.holding in
    started (g.D.Disk.past log.disk) (g.D.Disk.state log.disk) (λ image. KeepsUnder (worlds g.R.Rules.rules) IsRoot image world)
    (kept_under g.R.Rules.rules log (g.D.Disk.state log.disk) world carries IsRoot (inl (still_root carries.carried.layout)))

pub returns-then-not-is_due-clause-renewed : goal.returns-then-not-is_due-clause-renewed
returns-then-not-is_due-clause-renewed g c = λ whole one honest world carries. absurd (omega (arith, one, c.ticks_left.ensures, c.if-ticks_left-gt0.false))

pub returns-in_err-begin-clause-renewed : goal.returns-in_err-begin-clause-renewed
returns-in_err-begin-clause-renewed g c = λ whole one honest world carries. absurd (omega (arith, one, c.ticks_left.ensures, c.if-ticks_left-gt0.false))

pub returns-clause-renewed : goal.returns-clause-renewed
returns-clause-renewed g c = λ whole one honest world carries. absurd (omega (arith, one, c.ticks_left.ensures, c.if-ticks_left-gt0.false))

pub returns-then-ticks_left-gt0-clause-roots : goal.returns-then-ticks_left-gt0-clause-roots
returns-then-ticks_left-gt0-clause-roots g c = λ whole honest world lent carries.
    c.go_on.ensures.roots whole honest (tables_due c.args.self.now.base (lent_of g.T.TablesInWords c.args.tables.now)).snapshots world carries

pub returns-then-not-is_due-clause-roots : goal.returns-then-not-is_due-clause-roots
returns-then-not-is_due-clause-roots g c = λ whole honest world lent carries. (carries, no_step)

pub returns-then-ticks_left-gt0-clause-nothing : goal.returns-then-ticks_left-gt0-clause-nothing
returns-then-ticks_left-gt0-clause-nothing g c = λ whole none left. absurd (omega (arith, none, c.ticks_left.ensures, c.if-ticks_left-gt0.true))

pub returns-in_err-begin-clause-nothing : goal.returns-in_err-begin-clause-nothing
returns-in_err-begin-clause-nothing g c = λ whole none left. (c.in_err-begin.ensures.unchanged (is_want c.in_err-begin.ensures.err (sym c.in_err-begin.ensures.broken ∙ whole))).disk

pub returns-clause-nothing : goal.returns-clause-nothing
returns-clause-nothing g c = λ whole none left. let some = c.in_ok-begin.ensures.some in absurd (omega (arith, some, left))

pub returns-then-not-is_due-clause-grows : goal.returns-then-not-is_due-clause-grows
returns-then-not-is_due-clause-grows g c = λ honest world carries. let log = c.args.self.now in stays_long g.D.Disk.file_len log log refl

pub returns-then-not-is_due-clause-pages : goal.returns-then-not-is_due-clause-pages
returns-then-not-is_due-clause-pages g c =
    let log = c.args.self.now in
    pages_resting log log (omega (arith, c.ticks_left.ensures, c.if-ticks_left-gt0.false)) refl

pub returns-in_err-begin-clause-pages : goal.returns-in_err-begin-clause-pages
returns-in_err-begin-clause-pages g c =
    pages_resting c.args.self.now c.begin.new.self (omega (arith, c.ticks_left.ensures, c.if-ticks_left-gt0.false)) c.in_err-begin.ensures.pages

pub returns-clause-pages : goal.returns-clause-pages
returns-clause-pages g c =
    pages_resting c.args.self.now c.begin.new.self (omega (arith, c.ticks_left.ensures, c.if-ticks_left-gt0.false)) c.in_ok-begin.ensures.pages
