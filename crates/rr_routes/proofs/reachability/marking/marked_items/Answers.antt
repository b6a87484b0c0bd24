use Rattle.std.proofs.Common.{◌≡◌, false, length, get_or, sym, ◌∙◌, arith}
use Rattle.rr_routes.specs.Reachability.Reach.{IsMarked}
use Rattle.rr_routes.proofs.ReachabilityLemmas.PlaceLemmas.{exact_first, exact_next_yes, exact_next_no, marked_first, marked_next_yes, marked_next_no, marked_done}
use Rattle.rr_routes.proofs.reachability.marking.marked_items.Goals as goal

pub loop-place-init : goal.loop-place-init
loop-place-init g c =
    let none = c.in_ok-marked.ensures.items in
    rw none (exact_first c.args.marks.now, marked_first c.args.items.now c.args.marks.now)

pub loop-place-preserved-then-not-is_marked : goal.loop-place-preserved-then-not-is_marked
loop-place-preserved-then-not-is_marked g c =
    let items = c.args.items.now in
    let marks = c.args.marks.now in
    let marked = c.loop-place.marked.items in
    let fails : get_or marks c.loop-place.place false ≡ false = sym c.is_marked.ensures ∙ c.if-not-is_marked.true in
    (exact_next_no items marks c.loop-place.place marked c.loop-place.invariant.0 fails, marked_next_no items marks c.loop-place.place marked c.loop-place.invariant.1 fails)

pub loop-place-preserved : goal.loop-place-preserved
loop-place-preserved g c =
    let items = c.args.items.now in
    let marks = c.args.marks.now in
    let marked = c.loop-place.marked.items in
    let new = c.push.new.self.items in
    let item = c.index-items-place.result in
    let here = c.index-items-place.is in
    let inside = c.loop-place-test.true in
    let passes : IsMarked marks c.loop-place.place = sym c.is_marked.ensures ∙ c.if-not-is_marked.false in
    let pushed = c.in_ok-push.ensures.items in (
      exact_next_yes items marks c.loop-place.place marked new item c.loop-place.invariant.0 inside here passes pushed,
      marked_next_yes items marks c.loop-place.place marked new item c.loop-place.invariant.1 inside here passes pushed,
    )

pub returns-clause-members : goal.returns-clause-members
returns-clause-members g c =
    let all : c.loop-place.place ≡ length c.args.items.now = omega arith in
    marked_done c.args.items.now c.args.marks.now c.loop-place.place c.loop-place.marked.items c.loop-place.invariant.1 all
