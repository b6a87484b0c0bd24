use Rattle.std.proofs.Common.{sym, ◌∙◌}
use Rattle.rr_checker.proofs.StepLemmas.{yes, no}
use Rattle.rr_checker.proofs.OwnLemmas.{Decides-is_over}
use Rattle.rr_checker.proofs.TripLemmas.{Decides-has_token_on, not_over}
use Rattle.rr_referee.proofs.CourseLemmas.{no_course, node_twice, terminal_inside, token_missing, centres_over, route_up}
use Rattle.rr_referee.proofs.course.first_broken.Goals as goal

pub returns-then-not-is_course : goal.returns-then-not-is_course
returns-then-not-is_course c =
    no_course c.args.net.now c.args.limit.now c.args.links.now c.args.nodes.now c.requires (no c.is_course.ensures c.if-not-is_course.true)

pub returns-then-not-is_simple : goal.returns-then-not-is_simple
returns-then-not-is_simple c =
    node_twice c.args.net.now c.args.limit.now c.args.links.now c.args.nodes.now c.requires (yes c.is_course.ensures c.if-not-is_course.false)
    (no c.is_simple.ensures c.if-not-is_simple.true)

pub returns-then-not-is_clear : goal.returns-then-not-is_clear
returns-then-not-is_clear c =
    terminal_inside c.args.net.now c.args.limit.now c.args.links.now c.args.nodes.now c.requires (yes c.is_course.ensures c.if-not-is_course.false)
    (yes c.is_simple.ensures c.if-not-is_simple.false) (no c.is_clear.ensures c.if-not-is_clear.true)

pub returns-then-not-has_token_on : goal.returns-then-not-has_token_on
returns-then-not-has_token_on c =
    token_missing c.args.net.now c.args.limit.now c.args.links.now c.args.nodes.now c.requires (yes c.is_course.ensures c.if-not-is_course.false)
    (yes c.is_simple.ensures c.if-not-is_simple.false) (yes c.is_clear.ensures c.if-not-is_clear.false)
    (no (Decides-has_token_on c.args.net.now c.args.nodes.now) (sym c.has_token_on.ensures ∙ c.if-not-has_token_on.true))

pub returns-then-counts_over : goal.returns-then-counts_over
returns-then-counts_over c =
    centres_over c.args.net.now c.args.limit.now c.args.links.now c.args.nodes.now c.requires (yes c.is_course.ensures c.if-not-is_course.false)
    (yes c.is_simple.ensures c.if-not-is_simple.false) (yes c.is_clear.ensures c.if-not-is_clear.false)
    (yes (Decides-has_token_on c.args.net.now c.args.nodes.now) (sym c.has_token_on.ensures ∙ c.if-not-has_token_on.false))
    (yes (Decides-is_over c.args.limit.now _) (rw (c.deref.ensures.value, c.in_ok-counted.ensures {u = tt}) at (sym c.counts_over.ensures ∙ c.if-counts_over.true)))

pub returns : goal.returns
returns c =
    route_up c.args.net.now c.args.limit.now c.args.links.now c.args.nodes.now (yes c.is_course.ensures c.if-not-is_course.false)
    (yes c.is_simple.ensures c.if-not-is_simple.false) (yes c.is_clear.ensures c.if-not-is_clear.false)
    (yes (Decides-has_token_on c.args.net.now c.args.nodes.now) (sym c.has_token_on.ensures ∙ c.if-not-has_token_on.false))
    (not_over c.args.limit.now _ (rw (c.deref.ensures.value, c.in_ok-counted.ensures {u = tt}) at (sym c.counts_over.ensures ∙ c.if-counts_over.false)))
