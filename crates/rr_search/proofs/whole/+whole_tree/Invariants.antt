use Rattle.std.proofs.Common.{◌≡◌, ℕ, ◌+◌, ◌-◌, ◌*◌, ◌<◌, length, get_or}
use Rattle.std.specs.List.{sum_by}
use Rattle.rr_routes.specs.declared.certificate.CertTree.{CertTree}
use Rattle.rr_routes.specs.Certificates.{node_count}
use Rattle.rr_search.specs.Whole.{whole_size, ShowsFrom}
use Rattle.rr_search.proofs.whole.+whole_tree.Given as goal

abbrev pub decreases-whole_tree : goal.decreases-whole_tree
decreases-whole_tree l = length l.net.now.links - l.link

-- each child so far is a whole tree of the links behind
abbrev pub invariant-loop-choice : goal.invariant-loop-choice
invariant-loop-choice l = record {
  as_many : length l.children.items ≡ l.choice;
  shown : (k : ℕ) (d : CertTree) → k < length l.children.items → ShowsFrom l.net (l.link + 1) (get_or l.children.items k d);
  counted : sum_by node_count l.children.items ≡ l.choice * whole_size (length l.net.trains) (length l.net.links - (l.link + 1));
}
