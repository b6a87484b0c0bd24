use Rattle.rr_books.specs.State.{holder_in}
use Rattle.rr_rounds.specs.Bids.ProgressLaws.{stands_once}
use Rattle.rr_rounds.proofs.BidsLemmas.Commands.{commands_by_one}
use Rattle.rr_rounds.proofs.bids.bidding.Bidding.follow.Goals as goal

pub returns-clause-book : goal.returns-clause-book
returns-clause-book c book h k = stands_once book c.args.entry.now c.args.books.now c.args.self.now c.after.result c.after.ensures h k

pub returns-clause-commands : goal.returns-clause-commands
returns-clause-commands c =
    commands_by_one c.args.books.now.players (holder_in c.args.books.now) c.args.self.now c.after.result c.args.entry.now c.after.ensures
