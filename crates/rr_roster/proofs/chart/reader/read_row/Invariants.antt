use Rattle.std.proofs.Common.{map}
use Rattle.rr_roster.proofs.ChartLemmas.FrontLemmas.{IsReadTo}
use Rattle.rr_roster.proofs.chart.reader.read_row.Given as goal

abbrev pub invariant-loop-column : goal.invariant-loop-column
invariant-loop-column l = IsReadTo l.above (map (λ word. word.now) l.line.words.items) l.column l.cells.items l.pars.items
