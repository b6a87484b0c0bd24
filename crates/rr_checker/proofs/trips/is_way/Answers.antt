use Rattle.rr_checker.proofs.StepLemmas.{yes, no, Decides-never}
use Rattle.rr_checker.proofs.TripLemmas.{way_left}
use Rattle.rr_checker.proofs.trips.is_way.Goals as goal

pub returns-then-not-is_walk : goal.returns-then-not-is_walk
returns-then-not-is_walk c = Decides-never (λ w. no c.is_walk.ensures c.if-not-is_walk.true w.walk)

pub returns-then-not-simple : goal.returns-then-not-simple
returns-then-not-simple c = Decides-never (λ w. no (c.in_ok-simple.ensures {u = tt}) c.if-not-simple.true w.simple)

pub returns-then-not-ends_at_centres : goal.returns-then-not-ends_at_centres
returns-then-not-ends_at_centres c = Decides-never (λ w. no c.ends_at_centres.ensures c.if-not-ends_at_centres.true w.ends)

pub returns-then-not-is_clear : goal.returns-then-not-is_clear
returns-then-not-is_clear c = Decides-never (λ w. no c.is_clear.ensures c.if-not-is_clear.true w.clear)

pub returns : goal.returns
returns c =
    way_left c.args.net.now c.args.links.now c.args.nodes.now c.has_token_on.result (yes c.is_walk.ensures c.if-not-is_walk.false) (yes (c.in_ok-simple.ensures {u = tt}) c.if-not-simple.false)
    (yes c.ends_at_centres.ensures c.if-not-ends_at_centres.false) (yes c.is_clear.ensures c.if-not-is_clear.false) c.has_token_on.ensures
