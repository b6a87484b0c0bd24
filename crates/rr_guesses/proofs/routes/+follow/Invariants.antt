use Rattle.rr_guesses.proofs.routes.+follow.Given as goal

abbrev pub decreases-follow : goal.decreases-follow
decreases-follow l = l.depth
