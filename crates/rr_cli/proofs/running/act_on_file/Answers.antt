use Rattle.std.proofs.Common.{refl}
use Rattle.rr_cli.specs.Running.{Acted, Not_opened}
use Rattle.rr_cli.proofs.RunningLemmas.{ends_as, not_opened_as, opened_as}
use Rattle.rr_cli.proofs.running.act_on_file.Goals as goal

pub returns-in-Ok : goal.returns-in-Ok
returns-in-Ok g c =
    Acted c.in-Ok.disk c.act_with-status.result.1
    (opened_as _ _ _ _ _ _ c.file.ensures c.makes_file.ensures c.in-Ok.ensures.opened)
    c.in-Ok.ensures.held c.act_with-status.ensures refl

pub returns-in-Err : goal.returns-in-Err
returns-in-Err g c =
    Not_opened
    (not_opened_as _ _ _ _ _ _ c.file.ensures c.makes_file.ensures c.in-Err.ensures.not_opened)
    refl
    (ends_as _ _ _ _ _ c.in-Err.ensures.fault c.end.ensures)
