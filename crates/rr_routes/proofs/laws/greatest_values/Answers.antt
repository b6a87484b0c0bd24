use Rattle.rr_routes.proofs.Bounds.{bounded_greatest}
use Rattle.rr_routes.proofs.laws.greatest_values.Goals as goal

pub returns : goal.returns
returns c = bounded_greatest
