use Rattle.rr_images.proofs.Following.{read_is_spelled}
use Rattle.rr_images.proofs.laws.roots_are_read.Goals as goal

pub returns : goal.returns
returns g c = read_is_spelled g.C.Codec.codec
