use Rattle.std.proofs.Common.{◌≤◌, ℕ, length, sym, ap, ◌∙◌, arith}
use Rattle.std.proofs.lemmas.List.{get_or_default}
use Rattle.rr_routes.specs.declared.net.Node.TheVariants.{Hexside}
use Rattle.rr_routes.specs.Reachability.Index.{noted}
use Rattle.rr_routes.proofs.ReachabilityLemmas.IndexLemmas.{items_first, items_next}
use Rattle.rr_checker.specs.Index.{node_key}
use Rattle.rr_checker.specs.Trips.{node_at}
use Rattle.rr_checker.proofs.SimpleLemmas.{again_broken, fresh_next}
use Rattle.rr_checker.proofs.TripLemmas.{simple_done}
use Rattle.rr_checker.proofs.trips.is_simple_by_index.Goals as goal

pub loop-place-init : goal.loop-place-init
loop-place-init c = record {
  simple = tt;
  seen = items_first node_key c.args.nodes.now (length c.args.nodes.now) c.in_ok-seen.seen (c.in_ok-seen.ensures {u = tt});
}

pub returns-then-stands_at_one : goal.returns-then-stands_at_one
returns-then-stands_at_one c =
    again_broken c.args.nodes.now c.loop-place.place c.loop-place.seen c.loop-place-test.true c.loop-place.invariant.seen
    (rw c.noted_at.ensures at (sym c.stands_at_one.ensures ∙ c.if-stands_at_one.true))

pub loop-place-preserved : goal.loop-place-preserved
loop-place-preserved c =
    let nodes = c.args.nodes.now in
    let place = c.loop-place.place in
    record {
      simple = fresh_next nodes place c.loop-place.seen c.loop-place-test.true c.loop-place.invariant.seen c.loop-place.invariant.simple
          (rw c.noted_at.ensures at (sym c.stands_at_one.ensures ∙ c.if-stands_at_one.false));
      seen = items_next node_key nodes place c.loop-place.seen c.note.new.self (node_at nodes place) c.loop-place-test.true
          (get_or_default nodes place (Hexside 0) (node_at nodes place) c.loop-place-test.true) c.loop-place.invariant.seen
          (c.in_ok-note.ensures.ok ∙ ap (λ (key : ℕ). noted c.loop-place.seen key place) c.node_key.ensures);
    }

pub returns : goal.returns
returns c =
    let all : length c.args.nodes.now ≤ c.loop-place.place = omega arith in
    simple_done c.args.nodes.now c.loop-place.place all c.loop-place.invariant.simple
