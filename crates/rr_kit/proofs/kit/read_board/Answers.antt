use Rattle.std.proofs.Common.{refl}
use Rattle.rr_kit.specs.declared.board.fault.Fault.TheVariants as B
use Rattle.rr_kit.proofs.KitLemmas.{no_board}
use Rattle.rr_kit.proofs.kit.read_board.Goals as goal

pub returns-in-Err : goal.returns-in-Err
returns-in-Err c = (B.BadBoard 0, refl, no_board _ c.in-Err.ensures.cases.0)
