use Rattle.rr_images.proofs.Example.{example as proved}
use Rattle.rr_images.proofs.laws.example.Goals as goal

pub returns : goal.returns
returns c = proved
