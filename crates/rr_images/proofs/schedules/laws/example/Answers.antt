use Rattle.rr_images.proofs.ScheduleLemmas.Example.{example as proved}
use Rattle.rr_images.proofs.schedules.laws.example.Goals as goal

pub returns : goal.returns
returns c = proved
