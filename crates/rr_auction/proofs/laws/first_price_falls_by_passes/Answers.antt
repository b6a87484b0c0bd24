use Rattle.std.specs.Prelude.{ℕ, ◌-◌, ◌*◌}
use Rattle.std.proofs.Common.{ap}
use Rattle.rr_roster.specs.declared.company.Private.{Private}
use Rattle.rr_roster.specs.Terms.{face_of}
use Rattle.rr_auction.proofs.Passes.{counted_so_far}
use Rattle.rr_auction.proofs.laws.first_price_falls_by_passes.Goals as goal

pub returns : goal.returns
returns c roster book n there = ap (λ (k : ℕ). face_of roster Private.Sv - 5 * k) (counted_so_far n book there).falls
