use Rattle.rr_world_laws.proofs.Telling.{right_kits_are_not_wrong as proved}
use Rattle.rr_world_laws.proofs.right_kits_are_not_wrong.Goals as goal

pub returns : goal.returns
returns c = proved
