use Rattle.rr_running.proofs.NetLemmas.TellingLemmas.{centres_are_told_apart, hexes_are_told_apart, hexsides_are_told_apart}
use Rattle.rr_running.proofs.net.laws.hexsides_are_told_apart.Goals as goal

pub returns : goal.returns
returns c = record { hexsides = hexsides_are_told_apart; centres = centres_are_told_apart; hexes = hexes_are_told_apart }
