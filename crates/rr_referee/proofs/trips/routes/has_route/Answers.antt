use Rattle.rr_checker.proofs.StepLemmas.{yes, no, Decides-never}
use Rattle.rr_referee.proofs.TripsLemmas.RouteLemmas.{route_counts_two, Decides-has_route}
use Rattle.rr_referee.proofs.trips.routes.has_route.Goals as goal

pub returns-then-not-counts_two : goal.returns-then-not-counts_two
returns-then-not-counts_two c =
    Decides-never (λ has. no c.counts_two.ensures c.if-not-counts_two.true (route_counts_two c.args.net.now c.args.limit.now has))

pub returns : goal.returns
returns c =
    Decides-has_route c.args.net.now c.args.limit.now c.in_ok-found.found (yes c.counts_two.ensures c.if-not-counts_two.false)
    (rw (c.deref.ensures.value, c.in_ok-own.ensures {u = tt}, c.links.ensures, c.tokens.ensures) at (c.in_ok-found.ensures {u = tt}))
