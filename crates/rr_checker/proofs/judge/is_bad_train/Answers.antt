use Rattle.std.proofs.Common.{◌<◌, length, ap, arith}
use Rattle.std.proofs.lemmas.Bool.Decides.{Decides-like}
use Rattle.rr_routes.specs.declared.net.CentreLimit.{CentreLimit}
use Rattle.std.proofs.Common.{List}
use Rattle.rr_checker.proofs.judge.is_bad_train.Goals as goal

pub returns : goal.returns
returns c =
    let inside : c.args.train < length c.args.net.now.trains = omega (arith, ap (λ (ts : List CentreLimit). length ts) c.trains.ensures) in
    Decides-like c.in_ok-bad.bad (λ bad. (inside, bad)) (λ both. both.1) (c.in_ok-bad.ensures {u = tt})
