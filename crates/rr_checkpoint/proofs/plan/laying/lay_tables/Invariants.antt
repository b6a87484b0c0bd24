use Rattle.std.proofs.Common.{map, take}
use Rattle.rr_checkpoint.specs.Writer.{free_of}
use Rattle.rr_pages.specs.FreePages.{present_of, coming_of}
use Rattle.rr_checkpoint.specs.Plan.Laying.{AreTablesLaid}
use Rattle.rr_checkpoint.specs.Plan.Transcript.{table_of}
use Rattle.rr_checkpoint.specs.Plan.Writing.{OnlyTakes}
use Rattle.rr_reading.specs.Worlds.Spelling.{worlds}
use Rattle.rr_checkpoint.proofs.plan.laying.lay_tables.Given as goal

abbrev pub invariant-loop-table : goal.invariant-loop-table
invariant-loop-table g l =
    record {
      laid : AreTablesLaid (present_of (free_of l.fn.writer)) (coming_of (free_of l.fn.writer)) (coming_of (free_of l.writer)) l.fresh.items (map table_of (take l.table-index l.tables)) l.entries.items;
      only : OnlyTakes (worlds g.R.Rules.rules) l.fn.writer l.writer;
    }
