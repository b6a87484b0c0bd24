use Rattle.std.proofs.Common.{sym, ◌∙◌, refl, inr}
use Rattle.rr_referee.proofs.CourseLemmas.{nowhere, only_course}
use Rattle.rr_referee.proofs.course.journey_over.Goals as goal

pub first_broken-requires : goal.first_broken-requires
first_broken-requires c =
    rw (c.deref-in-Some-2.ensures.value, c.deref-in-Some-3.ensures.value) (only_course c.args.net.now c.args.links.items c.in_ok-nodes-in-Some.nodes.items c.in-Some.centre
    (rw c.deref.ensures.value at (sym c.start_of.ensures ∙ c.in-Some.is)) (rw c.deref-in-Some.ensures.value at (c.in_ok-nodes-in-Some.ensures {u = tt})))

pub returns-in-None : goal.returns-in-None
returns-in-None c =
    inr (_, refl, nowhere c.args.net.now c.args.limit.now c.args.links.items (rw c.deref.ensures.value at (sym c.start_of.ensures ∙ c.in-None.is)))

pub returns-in-Some-2 : goal.returns-in-Some-2
returns-in-Some-2 c = inr (_, refl, rw (c.in-Some-2.is, c.deref-in-Some-2.ensures.value) at (c.in_ok-clause-in-Some.ensures {u = tt}))
