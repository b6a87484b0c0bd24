use Rattle.std.proofs.Common.{◌≤◌, length, arith}
use Rattle.rr_checker.proofs.IndexLemmas.{links_first, links_next, links_done}
use Rattle.rr_checker.proofs.index.index_of_links.Goals as goal

pub loop-link-init : goal.loop-link-init
loop-link-init c = links_first c.args.net.now (length c.args.links.now) c.in_ok-index.index (c.in_ok-index.ensures {u = tt})

pub loop-link-preserved : goal.loop-link-preserved
loop-link-preserved c =
    links_next c.args.net.now c.args.links.now c.loop-link.link-index c.loop-link.index c.note_link.new.index c.loop-link-test.true c.loop-link.invariant
    (c.in_ok-note_link.ensures {u = tt})

pub returns : goal.returns
returns c =
    let all : length c.args.links.now ≤ c.loop-link.link-index = omega arith in
    links_done c.args.net.now c.args.links.now c.loop-link.link-index c.loop-link.index all c.loop-link.invariant
