use Rattle.rr_guesses.proofs.runs.+improve.Given as goal

abbrev pub decreases-improve : goal.decreases-improve
decreases-improve l = l.left
