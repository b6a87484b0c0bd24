use Rattle.std.proofs.Common.{map, ap, ◌∙◌}
use Rattle.std.proofs.lemmas.List.{take_all}
use Rattle.rr_running.specs.Net.Centres.{value_in}
use Rattle.rr_running.proofs.NetLemmas.ValueLemmas.{values-modest}
use Rattle.rr_running.proofs.net.centres.values_in.Goals as goal

pub returns-clause-modest : goal.returns-clause-modest
returns-clause-modest c =
    values-modest c.args.phase c.args.stops.now c.loop-stop.values.items (c.loop-stop.invariant ∙ ap (map (value_in c.args.phase)) (take_all c.loop-stop.stop-index c.args.stops.now c.loop-stop-test.false)) c.requires
