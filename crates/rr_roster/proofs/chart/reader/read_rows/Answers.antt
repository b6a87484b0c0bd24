use Rattle.std.proofs.lemmas.Result.{err_from_is_err_and}
use Rattle.rr_roster.proofs.ChartLemmas.RowLemmas.{AreRowsRead-start, IsRowsFault-in}
use Rattle.rr_roster.proofs.chart.reader.read_rows.Goals as goal

pub loop-line-init : goal.loop-line-init
loop-line-init c = rw (c.new-rows.ensures.items, c.new-pars.ensures.items) AreRowsRead-start

pub returns-in_err-row : goal.returns-in_err-row
returns-in_err-row c =
    let p = err_from_is_err_and c.from_residual.result c.from_residual.ensures.1 in
    rw (p.1, p.2) (IsRowsFault-in c.args.lines.now c.loop-line.line-index c.line-item.result c.deref.result.now c.loop-line.rows.items c.loop-line.pars.items _ c.loop-line-test.true c.line-item.is c.deref.ensures.value c.loop-line.invariant c.in_err-row.ensures)
