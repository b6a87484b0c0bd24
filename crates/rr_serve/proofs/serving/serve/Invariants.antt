use Rattle.rr_serve.proofs.ServingLemmas.{Serves}
use Rattle.rr_serve.proofs.serving.serve.Given as goal

abbrev pub invariant-loop-machine : goal.invariant-loop-machine
invariant-loop-machine g l =
    Serves g.M.Machine.Answers g.M.Machine.reply_of l.initial.machine l.machine (g.I.Input.state l.initial.reader) (g.I.Input.state l.reader)
    (g.O.Output.state l.initial.writer) (g.O.Output.state l.writer)

abbrev pub decreases-loop-machine : goal.decreases-loop-machine
decreases-loop-machine g l = (g.I.Input.state l.reader).most
