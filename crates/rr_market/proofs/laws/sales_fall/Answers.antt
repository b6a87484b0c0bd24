use Rattle.rr_market.proofs.FallLemmas.{fallen_by-falls}
use Rattle.rr_market.proofs.laws.sales_fall.Goals as goal

pub returns : goal.returns
returns c rows n cell = fallen_by-falls rows n cell
