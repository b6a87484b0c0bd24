use Rattle.rr_desk.proofs.PositionLemmas.Opened.{stands_opened, stands_begun}
use Rattle.rr_desk.proofs.position.position.Position.open.Goals as goal

pub returns-clause-opening : goal.returns-clause-opening
returns-clause-opening c =
    let n = c.args.players in
    let roster = c.args.roster.now in
    stands_opened n roster _ c.open.ensures.book (c.open-2.ensures.book roster n) c.new.ensures.book (c.open-3.ensures.book roster)
    (c.open-4.ensures.opening roster) c.new-2.ensures.book

pub returns-clause-auction : goal.returns-clause-auction
returns-clause-auction c names =
    let n = c.args.players in
    let roster = c.args.roster.now in
    stands_begun n roster names _ (returns-clause-opening c) (c.open-2.ensures.auction roster n names) (c.open-3.ensures.auction roster names)
    (c.open-4.ensures.auction roster names)
