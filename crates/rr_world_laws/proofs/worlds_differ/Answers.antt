use Rattle.rr_world_laws.proofs.Stamps.{worlds_differ as proved}
use Rattle.rr_world_laws.proofs.worlds_differ.Goals as goal

pub returns : goal.returns
returns c = proved
