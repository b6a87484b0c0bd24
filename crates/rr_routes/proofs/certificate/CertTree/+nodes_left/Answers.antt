use Rattle.std.proofs.Common.{◌≡◌, ◌+◌, ◌<◌, ◌≤◌, take, ap, sym, subst, ◌∙◌, arith, get_or}
use Rattle.std.specs.List.{sum_by}
use Rattle.std.proofs.lemmas.List.{take_all}
use Rattle.std.proofs.lemmas.List.Sums.{sum_by_more, sum_by_more_le}
use Rattle.rr_routes.specs.Certificates.{node_count}
use Rattle.rr_routes.proofs.Children.{node_count-Split, has_a_node}
use Rattle.rr_routes.proofs.certificate.CertTree.+nodes_left.Goals as goal

pub returns-in_err-left : goal.returns-in_err-left
returns-in_err-left t c =
    rw c.from_residual.ensures (omega (arith, has_a_node c.args.self.now, c.in_err-left.ensures {u = tt}))

pub loop-child-init : goal.loop-child-init
loop-child-init t c =
    let begun = c.in_ok-left.ensures {u = tt} in
    omega (arith, begun.0, begun.1)

pub returns-in_err-left-2 : goal.returns-in_err-left-2
returns-in_err-left-2 t c =
    let items = c.deref-child-items.result.now in
    let i = c.loop-child.child-index in
    let whole : node_count c.args.self.now ≡ 1 + sum_by node_count items =
    ap node_count c.in-Split.is ∙ node_count-Split c.in-Split.field-0 c.in-Split.children
    ∙ ap (λ xs. 1 + sum_by node_count xs) (sym c.deref-child-items.ensures.value) in
    let child : c.child-item.result ≡ get_or items i c.child-item.result = c.child-item.is in
    let most : sum_by node_count (take i items) + node_count (get_or items i c.child-item.result) ≤ sum_by node_count items =
    sum_by_more_le node_count items i c.child-item.result c.loop-child-test.true in
    let over : c.loop-child.left < node_count (get_or items i c.child-item.result) =
    subst (λ tree. c.loop-child.left < node_count tree) child (c.in_err-left-2.ensures {u = tt}) in
    rw c.from_residual-in_err-left-2.ensures (omega (arith, whole, most, over, c.loop-child.invariant))

pub loop-child-preserved : goal.loop-child-preserved
loop-child-preserved t c =
    let items = c.deref-child-items.result.now in
    let i = c.loop-child.child-index in
    let child : c.child-item.result ≡ get_or items i c.child-item.result = c.child-item.is in
    let more : sum_by node_count (take (i + 1) items) ≡ sum_by node_count (take i items) + node_count (get_or items i c.child-item.result) =
    sum_by_more node_count items i c.child-item.result c.loop-child-test.true in
    let took : c.in_ok-left-2.left + node_count (get_or items i c.child-item.result) ≡ c.loop-child.left =
    subst (λ tree. c.in_ok-left-2.left + node_count tree ≡ c.loop-child.left) child (c.in_ok-left-2.ensures {u = tt}) in
    omega (arith, more, took, c.loop-child.invariant)

pub returns-after-loop-child : goal.returns-after-loop-child
returns-after-loop-child t c =
    let items = c.deref-child-items.result.now in
    let i = c.loop-child.child-index in
    let whole : node_count c.args.self.now ≡ 1 + sum_by node_count items =
    ap node_count c.in-Split.is ∙ node_count-Split c.in-Split.field-0 c.in-Split.children
    ∙ ap (λ xs. 1 + sum_by node_count xs) (sym c.deref-child-items.ensures.value) in
    let all : sum_by node_count (take i items) ≡ sum_by node_count items = ap (sum_by node_count) (take_all i items (omega arith)) in
    omega (arith, whole, all, c.loop-child.invariant)
