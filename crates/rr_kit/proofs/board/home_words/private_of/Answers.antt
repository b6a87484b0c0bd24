use Rattle.rr_kit.proofs.BoardLemmas.NameLemmas.{private_found}
use Rattle.rr_kit.proofs.board.home_words.private_of.Goals as goal

pub returns : goal.returns
returns c = private_found _ _ c.from_name.ensures.found c.from_name.ensures.only
