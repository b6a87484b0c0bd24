use Rattle.std.proofs.Common.{◌≤◌, ◌<◌, length, sym, ◌∙◌, arith}
use Rattle.rr_checker.proofs.TripLemmas.{nonempty}
use Rattle.rr_checker.proofs.OwnLemmas.{same_crowded}
use Rattle.rr_checker.proofs.JourneyLemmas.{none_at_all, none_crowded, none_from_more}
use Rattle.rr_checker.proofs.journeys.journey_over.Goals as goal

pub returns-then-is_crowded_on : goal.returns-then-is_crowded_on
returns-then-is_crowded_on c =
    let index = c.in_ok-index.index in
    none_crowded c.args.net.now c.args.limit.now c.args.own.now
    (sym (same_crowded c.args.net.now c.args.own.now index (c.in_ok-index.ensures {u = tt})) ∙ sym c.is_crowded_on.ensures ∙ c.if-is_crowded_on.true)

pub from_link-requires : goal.from_link-requires
from_link-requires c = c.in_ok-index.ensures {u = tt}

pub loop-link-preserved : goal.loop-link-preserved
loop-link-preserved c =
    none_from_more c.args.net.now c.args.limit.now c.args.own.now c.loop-link.link-index c.loop-link.invariant
    (rw c.in_default.is at (c.in_ok-journey.ensures {u = tt}))

pub returns : goal.returns
returns c =
    let all : length c.args.own.now ≤ c.loop-link.link-index = omega arith in
    let some : 0 < length c.args.own.now = nonempty (length c.args.own.now) (sym c.is_empty.ensures ∙ c.if-is_empty.false) in
    none_at_all c.args.net.now c.args.limit.now c.args.own.now some (λ k less. c.loop-link.invariant k (omega arith))
