use Rattle.rr_world_laws.proofs.FewPlays.{snapshots_are_short as proved}
use Rattle.rr_world_laws.proofs.snapshots_are_short.Goals as goal

pub returns : goal.returns
returns c = proved c.games_are_short.ensures.most
