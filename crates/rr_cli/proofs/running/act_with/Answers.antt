use Rattle.rr_cli.specs.Running.{texts_in}
use Rattle.rr_cli.proofs.RunningLemmas.{acts_with, same_texts}
use Rattle.rr_cli.proofs.running.act_with.Goals as goal

pub returns : goal.returns
returns g c =
    let same = same_texts _ _ _ _ _ _ _ _ c.as_slice.ensures.value c.as_slice-2.ensures.value c.as_slice-3.ensures.value c.as_slice-4.ensures.value in
    acts_with g.D.Disk c.args.plan.now _ (texts_in c.args.kit.now) c.args.disk c.act.result.1 _ _ _ _ _ same c.act.ensures
