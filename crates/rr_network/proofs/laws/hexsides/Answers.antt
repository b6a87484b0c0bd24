use Rattle.rr_network.proofs.FacingLemmas.{share_hexsides, face_each_other, is_test_of_hexsides}
use Rattle.rr_network.proofs.laws.hexsides.Goals as goal

pub returns : goal.returns
returns c = record { shared = share_hexsides; returned = face_each_other; tested = is_test_of_hexsides }
