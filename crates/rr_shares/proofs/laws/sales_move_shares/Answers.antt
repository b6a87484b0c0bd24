use Rattle.rr_shares.proofs.SaleLemmas.{sales_move_shares}
use Rattle.rr_shares.proofs.laws.sales_move_shares.Goals as goal

pub returns : goal.returns
returns c = sales_move_shares
