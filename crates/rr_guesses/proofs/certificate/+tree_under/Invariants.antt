use Rattle.rr_guesses.proofs.certificate.+tree_under.Given as goal

abbrev pub decreases-tree_under : goal.decreases-tree_under
decreases-tree_under l = l.node.depth
