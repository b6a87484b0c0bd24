use Rattle.rr_guesses.proofs.settling.+settle.Given as goal

abbrev pub decreases-settle : goal.decreases-settle
decreases-settle l = l.depth
