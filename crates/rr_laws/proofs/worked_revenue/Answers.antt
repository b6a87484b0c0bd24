use Rattle.rr_laws.proofs.WorkedRevenueRows.{worked_revenue}
use Rattle.rr_laws.proofs.worked_revenue.Goals as goal

pub returns : goal.returns
returns c = worked_revenue
