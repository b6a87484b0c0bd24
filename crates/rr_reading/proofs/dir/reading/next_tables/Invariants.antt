use Rattle.rr_reading.proofs.DirLemmas.TableLemmas.{ReadsTables}
use Rattle.rr_reading.proofs.dir.reading.next_tables.Given as goal

abbrev pub invariant-loop : goal.invariant-loop
invariant-loop l = ReadsTables l.initial.cursor l.tables.items l.counter l.cursor
