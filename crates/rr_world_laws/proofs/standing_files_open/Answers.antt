use Rattle.rr_world_laws.proofs.Telling.{standing_files_open as proved}
use Rattle.rr_world_laws.proofs.standing_files_open.Goals as goal

pub returns : goal.returns
returns c = proved
