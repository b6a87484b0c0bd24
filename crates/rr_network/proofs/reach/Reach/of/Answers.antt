use Rattle.rr_network.specs.Walk.{Reached}
use Rattle.rr_network.proofs.WalkLemmas.{link-reached, node-reached}
use Rattle.std.proofs.Common.{◌≡◌, ◌+◌, ◌<◌, List, length, refl, sym, ◌∙◌, subst, rules}
use Rattle.rr_network.specs.declared.node.Link.{Link}
use Rattle.rr_network.proofs.OverLemmas.{walk_within}
use Rattle.rr_network.proofs.reach.Reach.of.Goals as goal

pub returns-clause-links : goal.returns-clause-links
returns-clause-links c =
    let reach : Reached = record { corp = c.args.corp; stations = c.in_ok-stations.stations.items; steps = c.in_ok-steps.steps.items } in
    link-reached c.args.network.now c.args.corp reach c.in_ok-steps.ensures

pub returns-clause-nodes : goal.returns-clause-nodes
returns-clause-nodes c =
    let reach : Reached = record { corp = c.args.corp; stations = c.in_ok-stations.stations.items; steps = c.in_ok-steps.steps.items } in
    let tokens : c.in_ok-stations.stations.items ≡ c.args.network.now.stations = c.in_ok-stations.ensures.items_if_clones_equal (λ x y e. search rules) ∙ c.stations.ensures in
    node-reached c.args.network.now c.args.corp reach refl tokens c.in_ok-steps.ensures

pub links_over-requires : goal.links_over-requires
links_over-requires c = λ step has.
    subst (λ (ls : List Link). step.number < length ls + 1) (sym c.links.ensures)
    (walk_within c.args.network.now c.args.corp step ((c.in_ok-steps.ensures {u = tt} step).0 (rw c.deref.ensures.value at has)))
