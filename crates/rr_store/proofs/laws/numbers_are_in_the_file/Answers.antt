use Rattle.rr_store.proofs.Numbers.{numbers_are_in_the_file as proved}
use Rattle.rr_store.proofs.laws.numbers_are_in_the_file.Goals as goal

pub returns : goal.returns
returns g c = proved g.D.Disk.state
