use Rattle.rr_images.proofs.Refusing.{stands_is_not_refused}
use Rattle.rr_images.proofs.laws.refused_files_stand_for_nothing.Goals as goal

pub returns : goal.returns
returns g c = stands_is_not_refused g.C.Codec.codec
