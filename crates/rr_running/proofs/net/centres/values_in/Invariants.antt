use Rattle.std.proofs.Common.{◌≡◌, map, take}
use Rattle.rr_running.specs.Net.Centres.{value_in}
use Rattle.rr_running.proofs.net.centres.values_in.Given as goal

abbrev pub invariant-loop-stop : goal.invariant-loop-stop
invariant-loop-stop l = l.values.items ≡ map (value_in l.phase) (take l.stop-index l.stops)
