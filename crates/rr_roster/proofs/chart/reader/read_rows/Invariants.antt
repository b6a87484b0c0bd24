use Rattle.std.proofs.Common.{map, take}
use Rattle.rr_words.specs.Text.{row_of}
use Rattle.rr_roster.specs.Chart.Reading.{AreRowsRead}
use Rattle.rr_roster.proofs.chart.reader.read_rows.Given as goal

abbrev pub invariant-loop-line : goal.invariant-loop-line
invariant-loop-line l = AreRowsRead (map row_of (take l.line-index l.lines)) l.rows.items l.pars.items
