use Rattle.rr_auction.proofs.Standing.{verdict_by_views, verdict_moved}
use Rattle.rr_auction.proofs.judging.judge.Goals as goal

pub returns-clause-book : goal.returns-clause-book
returns-clause-book c book h =
    verdict_moved c.judge_by.result _ _
    (verdict_by_views c.args.roster.now c.args.chart.now c.args.act.now book c.args.position.now c.books.result.now c.bidding.result.now c.books.ensures c.bidding.ensures h)
    c.judge_by.ensures
