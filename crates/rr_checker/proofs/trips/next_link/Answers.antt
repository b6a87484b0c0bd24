use Rattle.std.proofs.Common.{◌≤◌, length, get_or, sym, ◌∙◌, arith}
use Rattle.std.proofs.lemmas.List.Elements.{Contains-get_or}
use Rattle.rr_checker.proofs.StepLemmas.{yes}
use Rattle.rr_checker.proofs.FollowLemmas.{Decides-is_next, none_next, none_so_far}
use Rattle.rr_checker.proofs.trips.next_link.Goals as goal

pub loop-link-preserved : goal.loop-link-preserved
loop-link-preserved c = none_so_far c.args.net.now c.args.own.now c.args.taken.now c.args.at.now c.loop-link.link-index c.loop-link.invariant (sym c.is_next.ensures ∙ c.if-is_next.false)

pub returns-then-is_next : goal.returns-then-is_next
returns-then-is_next c =
    let link = get_or c.args.own.now c.loop-link.link-index 0 in (
      Contains-get_or c.args.own.now c.loop-link.link-index 0 c.loop-link-test.true,
      yes (Decides-is_next c.args.net.now c.args.taken.now c.args.at.now link) (sym c.is_next.ensures ∙ c.if-is_next.true),
    )

pub returns : goal.returns
returns c =
    let all : length c.args.own.now ≤ c.loop-link.link-index = omega arith in
    none_next c.args.net.now c.args.own.now c.args.taken.now c.args.at.now (λ k less. c.loop-link.invariant k (omega arith))
