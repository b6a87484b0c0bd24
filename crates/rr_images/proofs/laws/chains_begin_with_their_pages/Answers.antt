use Rattle.rr_images.proofs.Laid.{chains_begin}
use Rattle.rr_images.proofs.laws.chains_begin_with_their_pages.Goals as goal

pub returns : goal.returns
returns c = chains_begin
