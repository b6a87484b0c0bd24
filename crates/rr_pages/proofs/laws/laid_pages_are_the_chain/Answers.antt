use Rattle.rr_pages.proofs.Spelling.{laid_chain}
use Rattle.rr_pages.proofs.laws.laid_pages_are_the_chain.Goals as goal

pub returns : goal.returns
returns c = laid_chain
