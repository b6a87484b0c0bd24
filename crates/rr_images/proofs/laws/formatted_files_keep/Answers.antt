use Rattle.rr_images.proofs.OneWorld.{formatted_keep}
use Rattle.rr_images.proofs.laws.formatted_files_keep.Goals as goal

pub returns : goal.returns
returns g c = formatted_keep g.C.Codec.codec
