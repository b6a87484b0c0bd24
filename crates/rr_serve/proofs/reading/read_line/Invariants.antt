use Rattle.rr_serve.proofs.ReadingLemmas.{Begins}
use Rattle.rr_serve.proofs.reading.read_line.Given as goal

abbrev pub invariant-loop-ending : goal.invariant-loop-ending
invariant-loop-ending g l =
    Begins (g.I.Input.state l.initial.reader) (g.I.Input.state l.reader) l.buffer

abbrev pub decreases-loop-ending : goal.decreases-loop-ending
decreases-loop-ending g l = (g.I.Input.state l.reader).most
