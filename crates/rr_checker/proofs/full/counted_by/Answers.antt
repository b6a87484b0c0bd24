use Rattle.std.proofs.Common.{sym, ◌∙◌, ap}
use Rattle.rr_routes.specs.Routes.{Trip, centres}
use Rattle.rr_checker.specs.Trips.{trip_over}
use Rattle.rr_checker.proofs.FullLemmas.{shared_none, no_journey, own_trip}
use Rattle.rr_checker.proofs.OwnLemmas.{same_shared}
use Rattle.rr_checker.proofs.full.counted_by.Goals as goal

pub returns-then-is_shared_on : goal.returns-then-is_shared_on
returns-then-is_shared_on c =
    shared_none c.args.net.now c.args.fates.now c.args.train c.in_ok-own.own.items c.in_ok-others.others.items (c.in_ok-own.ensures {u = tt}) (c.in_ok-others.ensures {u = tt})
    (sym (same_shared c.args.net.now c.args.fates.now c.args.train c.in_ok-own.own.items c.in_ok-others.others.items c.in_ok-others_index.others_index
    (rw c.deref.ensures.value at (c.in_ok-others_index.ensures {u = tt}))) ∙ (rw c.deref-2.ensures.value at (sym c.is_shared_on.ensures ∙ c.if-is_shared_on.true)))

pub returns-in-None : goal.returns-in-None
returns-in-None c =
    no_journey c.args.net.now c.args.fates.now c.args.train c.in_ok-own.own.items c.in_ok-others.others.items (c.in_ok-own.ensures {u = tt}) (c.in_ok-others.ensures {u = tt})
    (rw (c.in-None.is, c.deref-3.ensures.value, c.requires) at (c.in_ok-journey_over.ensures {u = tt}))

pub returns : goal.returns
returns c =
    let trip : Trip = trip_over c.in-Some.journey.links.items c.in-Some.journey.nodes.items in (
      trip,
      own_trip c.args.net.now c.args.fates.now c.args.train c.in_ok-own.own.items c.in_ok-others.others.items (c.in_ok-own.ensures {u = tt}) (c.in_ok-others.ensures {u = tt}) trip
          (rw (c.in-Some.is, c.deref-3.ensures.value, c.requires) at (c.in_ok-journey_over.ensures {u = tt}))
          (sym (same_shared c.args.net.now c.args.fates.now c.args.train c.in_ok-own.own.items c.in_ok-others.others.items c.in_ok-others_index.others_index
          (rw c.deref.ensures.value at (c.in_ok-others_index.ensures {u = tt}))) ∙ (rw c.deref-2.ensures.value at (sym c.is_shared_on.ensures ∙ c.if-is_shared_on.false))),
      c.of.ensures ∙ c.in_ok-centres-in-Some.ensures {u = tt} ∙ ap centres c.deref-in-Some.ensures.value,
    )
