use Rattle.rr_checker.proofs.StepLemmas.{yes, no, Decides-never}
use Rattle.rr_referee.proofs.WordLemmas.{own_word}
use Rattle.rr_referee.proofs.word.is_its_word.Goals as goal

pub returns-then-not-is_of_kind : goal.returns-then-not-is_of_kind
returns-then-not-is_of_kind c = Decides-never (λ its. no c.is_of_kind.ensures c.if-not-is_of_kind.true its.kind)

pub returns : goal.returns
returns c =
    own_word c.args.net.now c.args.limit.now c.args.word.now c.names_links.result (yes c.is_of_kind.ensures c.if-not-is_of_kind.false)
    (rw c.as_slice.ensures at c.names_links.ensures)
