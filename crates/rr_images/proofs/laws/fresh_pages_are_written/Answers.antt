use Rattle.rr_images.proofs.Calls.{writes_page}
use Rattle.rr_images.proofs.laws.fresh_pages_are_written.Goals as goal

pub returns : goal.returns
returns g c = λ layout state world plan written left fresh stays between. writes_page g.C.Codec.codec layout state world stays plan written left fresh between
