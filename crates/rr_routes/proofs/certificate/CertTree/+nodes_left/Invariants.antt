use Rattle.std.proofs.Common.{◌≡◌, ◌+◌, take}
use Rattle.std.specs.List.{sum_by}
use Rattle.rr_routes.specs.Certificates.{node_count}
use Rattle.rr_routes.proofs.certificate.CertTree.+nodes_left.Given as goal

-- what is left, the nodes of the children so far and the split itself are the budget
abbrev pub invariant-loop-child : goal.invariant-loop-child
invariant-loop-child l = l.left + sum_by node_count (take l.child-index l.child-items) + 1 ≡ l.budget
