use Rattle.rr_search.proofs.FoundLemmas.{kind_told}
use Rattle.rr_search.proofs.kinds.kind_at.Goals as goal

pub returns : goal.returns
returns c = kind_told c.args.net.now c.args.train c.args.limit.now c.requires.inside c.requires.of c.kind_of.result c.kind_of.ensures
