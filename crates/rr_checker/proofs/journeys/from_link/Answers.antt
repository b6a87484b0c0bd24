use Rattle.std.proofs.Common.{sym, ◌∙◌}
use Rattle.rr_routes.specs.declared.net.Node.TheVariants.{Centre}
use Rattle.rr_checker.specs.Index.{noted_at}
use Rattle.rr_checker.proofs.IndexLemmas.{one_noted}
use Rattle.rr_checker.proofs.JourneyLemmas.{finds, none_without, none_at_centre, none_meeting}
use Rattle.rr_checker.proofs.journeys.from_link.Goals as goal

pub returns-in-None : goal.returns-in-None
returns-in-None c = none_without c.args.net.now c.args.limit.now c.args.own.now c.args.link (sym c.centre_at.ensures ∙ c.in-None.is)

pub returns-then-meets_another_on : goal.returns-then-meets_another_on
returns-then-meets_another_on c =
    none_meeting c.args.net.now c.args.limit.now c.args.own.now (noted_at c.args.index.now (Centre c.in-Some.centre))
    (one_noted c.args.net.now c.args.own.now c.args.index.now c.requires (Centre c.in-Some.centre))
    c.args.link c.in-Some.centre (sym c.centre_at.ensures ∙ c.in-Some.is) (sym c.meets_another_on.ensures ∙ c.if-meets_another_on.true)

pub returns-else-meets_another_on : goal.returns-else-meets_another_on
returns-else-meets_another_on c =
    finds _ c.from_centre.result
    (none_at_centre c.args.net.now c.args.limit.now c.args.own.now c.args.link c.in-Some.centre (sym c.centre_at.ensures ∙ c.in-Some.is)) c.from_centre.ensures
