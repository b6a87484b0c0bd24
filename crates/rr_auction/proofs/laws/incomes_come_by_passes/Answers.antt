use Rattle.rr_auction.proofs.Passes.{incomes_by_row}
use Rattle.rr_auction.proofs.laws.incomes_come_by_passes.Goals as goal

pub returns : goal.returns
returns c book s there = incomes_by_row book s there
