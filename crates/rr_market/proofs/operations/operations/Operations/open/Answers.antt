use Rattle.rr_market.proofs.OperationsLemmas.Opened.{stands_auction, stands_opened}
use Rattle.rr_market.proofs.operations.operations.Operations.open.Goals as goal

pub returns-clause-opening : goal.returns-clause-opening
returns-clause-opening c roster =
    let made = c.before_the_first_round.ensures in
    stands_opened c.args.players roster _ c.requires made.progress made.market made.stock

pub returns-clause-auction : goal.returns-clause-auction
returns-clause-auction c roster names =
    let made = c.before_the_first_round.ensures in
    stands_auction c.args.players roster names _ c.requires made.progress made.market made.stock
