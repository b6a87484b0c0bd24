use Rattle.std.proofs.Common.{take, ap}
use Rattle.rr_reading.specs.Lending.PageBuffer.{piece_in}
use Rattle.rr_reading.proofs.lending.page_buffer.PageBuffer.piece.Goals as goal

pub returns : goal.returns
unfolding piece_in
returns c = ap (take c.args.self.now.used) c.deref.ensures.value
