use Rattle.rr_stock.proofs.Standing.{judged}
use Rattle.rr_stock.proofs.judging.judge.Goals as goal

pub returns-clause-verdict : goal.returns-clause-verdict
returns-clause-verdict c book h = judged c.args.chart.now c.args.act.now book c.args.position.now c.judge_act.result h c.judge_act.ensures.verdict
