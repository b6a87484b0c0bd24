use Rattle.std.proofs.Common.{refl}
use Rattle.rr_reading.specs.Lending.PageBuffer.{piece_in}
use Rattle.rr_reading.proofs.lending.page_buffer.PageBuffer.clear.Goals as goal

pub returns : goal.returns
unfolding piece_in
returns c = refl
