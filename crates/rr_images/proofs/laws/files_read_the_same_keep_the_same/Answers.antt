use Rattle.rr_images.proofs.Framing.{read_the_same}
use Rattle.rr_images.proofs.laws.files_read_the_same_keep_the_same.Goals as goal

pub returns : goal.returns
returns g c = read_the_same g.C.Codec.codec
