use Rattle.std.proofs.Common.{refl}
use Rattle.rr_desk.proofs.LayoutLemmas.LayoutLemmas.{nothing_put}
use Rattle.rr_desk.proofs.layout.layout.Layout.new.Goals as goal

pub returns-clause-book : goal.returns-clause-book
returns-clause-book c = nothing_put _ refl refl
