use Rattle.rr_running.specs.Running.{net_now}
use Rattle.rr_running.proofs.Judged.{best_lawful, best_most}
use Rattle.rr_running.proofs.laws.best_earns_most.Goals as goal

pub returns : goal.returns
returns c = record {
  lawful = λ kit book c words certificate. best_lawful (net_now kit.board kit.tiles book c) words certificate;
  most = λ kit book c words certificate others. best_most (net_now kit.board kit.tiles book c) words certificate others;
}
