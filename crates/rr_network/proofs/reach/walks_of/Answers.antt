use Rattle.std.proofs.Common.{List, ◌∙◌, ap}
use Rattle.rr_network.specs.declared.step.Step.{Step}
use Rattle.rr_network.specs.Walk.{steps_of}
use Rattle.rr_network.proofs.WalkLemmas.{IsSearched, marked-EndsWalk}
use Rattle.rr_network.proofs.reach.walks_of.Goals as goal

pub returns : goal.returns
returns c =
    let net = c.args.network.now in
    let steps : List Step = c.in_ok-steps.steps.items in
    let searched : IsSearched net c.args.corp steps c.in_ok-graph.graph.items c.in_ok-starts.starts.items = record {
      all = c.in_ok-steps.ensures ∙ ap steps_of c.links.ensures;
      rows = rw c.deref.ensures.value at c.in_ok-graph.ensures;
      first = rw c.deref-2.ensures.value at c.in_ok-starts.ensures;
    } in
    let found = rw (c.deref-3.ensures.value, c.deref-4.ensures.value) at c.in_ok-marks.ensures.reached in
    let kept = rw (c.deref-5.ensures.value, c.deref-6.ensures.value) at c.in_ok-ends.ensures.members in
    marked-EndsWalk net c.args.corp steps c.in_ok-graph.graph.items c.in_ok-starts.starts.items c.in_ok-marks.marks.items c.in_ok-ends.ends.items searched found kept
