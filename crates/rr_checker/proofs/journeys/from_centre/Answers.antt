use Rattle.std.proofs.Common.{sym, ◌∙◌}
use Rattle.rr_checker.proofs.JourneyLemmas.{missing_own, no_route, found_trip}
use Rattle.rr_checker.proofs.StepLemmas.{yes, no}
use Rattle.rr_checker.proofs.journeys.from_centre.Goals as goal

pub returns-then-is_missing : goal.returns-then-is_missing
returns-then-is_missing c =
    missing_own c.args.net.now c.args.limit.now c.args.own.now c.args.centre c.in_ok-followed.followed.journey.links.items c.in_ok-followed.followed.journey.nodes.items c.in_ok-followed.followed.taken
    c.in_ok-followed.ensures.way c.in_ok-followed.ensures.taken (sym c.is_missing.ensures ∙ c.if-is_missing.true)

pub returns-then-not-lawful : goal.returns-then-not-lawful
returns-then-not-lawful c =
    no_route c.args.net.now c.args.limit.now c.args.own.now c.args.centre c.in_ok-followed.followed.journey.links.items c.in_ok-followed.followed.journey.nodes.items c.in_ok-followed.ensures.way
    (no (rw (c.deref.ensures.value, c.deref-2.ensures.value) at (c.in_ok-lawful.ensures {u = tt})) c.if-not-lawful.true)

pub returns : goal.returns
returns c =
    found_trip c.args.net.now c.args.limit.now c.args.own.now c.in_ok-followed.followed.journey.links.items c.in_ok-followed.followed.journey.nodes.items c.in_ok-followed.followed.taken
    c.in_ok-followed.ensures.taken c.in_ok-followed.ensures.own (sym c.is_missing.ensures ∙ c.if-is_missing.false)
    (yes (rw (c.deref.ensures.value, c.deref-2.ensures.value) at (c.in_ok-lawful.ensures {u = tt})) c.if-not-lawful.false)
