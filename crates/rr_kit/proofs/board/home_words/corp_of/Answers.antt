use Rattle.rr_kit.proofs.BoardLemmas.NameLemmas.{corp_found}
use Rattle.rr_kit.proofs.board.home_words.corp_of.Goals as goal

pub returns : goal.returns
returns c = corp_found _ _ c.from_name.ensures.found c.from_name.ensures.only
