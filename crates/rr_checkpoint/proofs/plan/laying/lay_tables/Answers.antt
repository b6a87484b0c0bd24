use Rattle.std.proofs.Common.{◌≡◌, length, Result, Err, refl, ap, arith}
use Rattle.std.proofs.lemmas.Result.{err_from_is_err_and}
use Rattle.rr_checkpoint.specs.Writer.{free_of}
use Rattle.rr_reading.specs.declared.dir.directory.TableEntry.{TableEntry}
use Rattle.rr_pages.specs.declared.fault.Fault.{Fault}
use Rattle.rr_pages.specs.declared.fault.Fault.TheVariants.{FileFull}
use Rattle.rr_pages.specs.FreePages.{present_of, coming_of}
use Rattle.rr_pages.specs.Laying.{pages_for}
use Rattle.rr_checkpoint.specs.Plan.Transcript.{table_of}
use Rattle.rr_checkpoint.proofs.PlanLemmas.Frames.{stays, onward}
use Rattle.rr_checkpoint.proofs.PlanLemmas.LaidTables.{none_laid, next_laid, too_few_same, too_few_tables}
use Rattle.rr_reading.specs.Worlds.Spelling.{worlds}
use Rattle.rr_reading.specs.Worlds.World.{text_for}
use Rattle.rr_checkpoint.proofs.plan.laying.lay_tables.Goals as goal

abbrev wrapped : Fault → Result TableEntry Fault
wrapped fault = Err fault

pub loop-table-init : goal.loop-table-init
loop-table-init g c =
    let writer = c.args.writer.now in
    record {
      laid = none_laid (present_of (free_of writer)) (coming_of (free_of writer)) c.args.fresh.now.items c.new-entries.result.items c.requires.nothing c.new-entries.ensures.items;
      only = stays (worlds g.R.Rules.rules) writer c.requires.resting;
    }

pub returns-in_err-entry-clause-full : goal.returns-in_err-entry-clause-full
returns-in_err-entry-clause-full g c = λ full.
    let p = err_from_is_err_and c.from_residual.result c.from_residual.ensures.1 in
    let is : c.in_err-entry.field-0.0 ≡ FileFull = cc (p.1, p.2, full) in
    let writer = c.args.writer.now in
    let now = c.loop-table.writer in
    let count = length (text_for (table_of c.table-item.result)) in
    too_few_tables (present_of (free_of writer)) (coming_of (free_of writer)) (coming_of (free_of now)) c.loop-table.fresh.items c.args.tables.now c.loop-table.table-index c.table-item.result c.loop-table.entries.items
    (omega (arith, c.loop-table-test.true)) c.table-item.is c.loop-table.invariant.laid
    (too_few_same (present_of (free_of now)) (present_of (free_of writer)) (coming_of (free_of now)) (coming_of (free_of now)) (pages_for count) c.loop-table.invariant.only.present refl (c.in_err-entry.ensures.full (ap wrapped is)))

pub returns-in_err-entry-clause-only : goal.returns-in_err-entry-clause-only
returns-in_err-entry-clause-only g c = onward (worlds g.R.Rules.rules) c.args.writer.now c.loop-table.writer c.lay_table.new.writer c.loop-table.invariant.only c.lay_table.ensures.only

pub returns-in_err-push-clause-only : goal.returns-in_err-push-clause-only
returns-in_err-push-clause-only g c = onward (worlds g.R.Rules.rules) c.args.writer.now c.loop-table.writer c.lay_table.new.writer c.loop-table.invariant.only c.lay_table.ensures.only

pub loop-table-preserved : goal.loop-table-preserved
loop-table-preserved g c =
    let writer = c.args.writer.now in
    let now = c.loop-table.writer in
    let next = c.lay_table.new.writer in
    record {
      laid = next_laid (present_of (free_of writer)) (present_of (free_of now)) (coming_of (free_of writer)) (coming_of (free_of now)) (coming_of (free_of next)) c.loop-table.fresh.items c.lay_table.new.fresh.items c.args.tables.now c.loop-table.table-index c.table-item.result c.loop-table.entries.items c.push.new.self.items c.in_ok-entry.entry
          (omega (arith, c.loop-table-test.true)) c.table-item.is c.loop-table.invariant.only.present c.loop-table.invariant.laid c.in_ok-entry.ensures.laid c.in_ok-entry.ensures.entry c.in_ok-entry.ensures.count c.in_ok-push.ensures.items;
      only = onward (worlds g.R.Rules.rules) writer now next c.loop-table.invariant.only c.lay_table.ensures.only;
    }
