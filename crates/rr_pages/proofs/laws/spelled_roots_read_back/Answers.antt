use Rattle.rr_pages.proofs.RootSpelling.{root_stands}
use Rattle.rr_pages.proofs.laws.spelled_roots_read_back.Goals as goal

pub returns : goal.returns
returns c = root_stands
