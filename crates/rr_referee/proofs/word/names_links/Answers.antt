use Rattle.rr_referee.proofs.WordLemmas.{Decides-names}
use Rattle.rr_referee.proofs.word.names_links.Goals as goal

pub returns : goal.returns
returns c = rw (c.names_no_link.ensures, c.links.ensures) (Decides-names _ c.args.numbers.now)
