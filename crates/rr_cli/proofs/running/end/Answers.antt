use Rattle.std.proofs.Common.{refl}
use Rattle.rr_cli.proofs.running.end.Goals as goal

pub returns : goal.returns
returns g c = record { ending = c.refuse.result; ends = c.status.ensures; none_left = refl; written = c.refuse.ensures }
