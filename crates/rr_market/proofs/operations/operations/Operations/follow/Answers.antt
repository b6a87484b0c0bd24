use Rattle.std.proofs.Common.{◌∙◌, ap}
use Rattle.rr_books.specs.declared.parties.Party.TheVariants as P
use Rattle.rr_books.specs.State.{cash_of, train_place_of}
use Rattle.rr_market.specs.Operations.Phases.{phase}
use Rattle.rr_market.specs.Operations.Due.{OnRounds}
use Rattle.rr_market.proofs.OperationsLemmas.ProgressLemmas.{round_by_one, sets_by_one, stands_once}
use Rattle.rr_market.proofs.OperationsLemmas.DueLemmas.{floated_once, market_once}
use Rattle.rr_market.proofs.operations.operations.Operations.follow.Goals as goal

pub returns-clause-book : goal.returns-clause-book
returns-clause-book c book h m r k = record {
  progress = stands_once book c.args.entry.now c.args.books.now c.args.self.now.progress _ (ap (λ (o : OnRounds). o.progress) (c.next.view_is ∙ c.after-next.ensures)) h k.progress;
  market = market_once book c.args.entry.now c.args.market.now c.args.self.now.market c.market_after-next-inside.result c.market_after-next-inside.ensures m k.market;
  floated = floated_once book c.args.entry.now c.args.stock.now c.args.self.now.stock c.stock_after-next-inside.result c.stock_after-next-inside.ensures r k.floated;
}

pub returns-clause-sets : goal.returns-clause-sets
returns-clause-sets c =
    sets_by_one (phase (train_place_of c.args.books.now)) (cash_of c.args.books.now P.Bank) c.args.self.now.progress _ c.args.entry.now
    (ap (λ (o : OnRounds). o.progress) (c.next.view_is ∙ c.after-next.ensures))

pub returns-clause-round : goal.returns-clause-round
returns-clause-round c =
    round_by_one (phase (train_place_of c.args.books.now)) (cash_of c.args.books.now P.Bank) c.args.self.now.progress _ c.args.entry.now
    (ap (λ (o : OnRounds). o.progress) (c.next.view_is ∙ c.after-next.ensures))
