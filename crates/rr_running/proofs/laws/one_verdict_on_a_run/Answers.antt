use Rattle.rr_running.specs.Running.{net_now}
use Rattle.rr_running.proofs.Judged.{one_alone, one_best}
use Rattle.rr_running.proofs.laws.one_verdict_on_a_run.Goals as goal

pub returns : goal.returns
returns c = record {
  alone = λ kit book c words one other. one_alone (net_now kit.board kit.tiles book c) words one other;
  best = λ kit book c words certificate one other. one_best (net_now kit.board kit.tiles book c) words certificate one other;
}
