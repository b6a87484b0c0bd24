use Rattle.std.proofs.Common.{◌≡◌, take}
use Rattle.rr_running.specs.Net.Joining.{sides_in}
use Rattle.rr_running.proofs.net.joining.sides_in.Given as goal

abbrev pub invariant-loop-link : goal.invariant-loop-link
invariant-loop-link l = l.sides.items ≡ sides_in (take l.link-index l.links)
