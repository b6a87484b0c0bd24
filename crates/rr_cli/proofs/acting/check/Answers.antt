use Rattle.std.proofs.Common.{refl, sym}
use Rattle.rr_cli.specs.Acting.{Checked, Not_checked}
use Rattle.rr_cli.proofs.acting.check.Goals as goal

pub returns-in-Ok : goal.returns-in-Ok
returns-in-Ok g c =
    rw (c.into_disk.ensures, c.status.ensures, sym c.in-Ok.ensures.1)
    (Checked c.in-Ok.moderator c.summary_of.result c.tell-ending.result c.in-Ok.ensures.0 c.summary_of.ensures refl c.tell-ending.ensures)

pub returns-in-Err : goal.returns-in-Err
returns-in-Err g c = Not_checked c.in-Err.refused.0 c.in-Err.ensures
