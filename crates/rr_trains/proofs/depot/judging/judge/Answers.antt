use Rattle.rr_trains.proofs.DepotLemmas.Standing.{judged, lent}
use Rattle.rr_trains.proofs.depot.judging.judge.Goals as goal

pub returns-clause-verdict : goal.returns-clause-verdict
returns-clause-verdict c book h =
    judged c.args.roster.now c.args.act.now book c.books.result.now c.judge_act.result (lent c.books.ensures h.books) c.judge_act.ensures
