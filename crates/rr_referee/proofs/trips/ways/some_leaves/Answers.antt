use Rattle.std.proofs.Common.{ℕ, arith}
use Rattle.rr_routes.specs.declared.net.Node.TheVariants.{Centre}
use Rattle.rr_checker.proofs.StepLemmas.{no, Decides-never}
use Rattle.rr_referee.specs.Trips.Ways.{Leaves}
use Rattle.rr_referee.proofs.TripsLemmas.WayLemmas.{none_more, none_at_all}
use Rattle.rr_referee.proofs.trips.ways.some_leaves.Goals as goal

pub loop-centre-preserved : goal.loop-centre-preserved
loop-centre-preserved c =
    none_more (λ (centre : ℕ). Leaves c.args.net.now c.args.own.now (Centre centre)) c.args.centres.now c.loop-centre.centre-index c.loop-centre.invariant
    (no (c.in_ok-found.ensures {u = tt}) c.if-found.false)

pub returns : goal.returns
returns c =
    Decides-never (λ some. none_at_all (λ (centre : ℕ). Leaves c.args.net.now c.args.own.now (Centre centre)) c.args.centres.now
    (λ k less. c.loop-centre.invariant k (omega arith)) some.0 some.1 some.2)
