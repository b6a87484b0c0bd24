use Rattle.std.proofs.Common.{refl}
use Rattle.rr_cli.specs.Running.{Kit_not_read, Kit_read, texts_in}
use Rattle.rr_cli.proofs.running.carry_out.Goals as goal

pub returns-in-Ok : goal.returns-in-Ok
returns-in-Ok g c =
    Kit_read (texts_in c.in-Ok.kit) _ c.in-Ok.ensures.read c.act_on_file.ensures

pub returns-in-Err : goal.returns-in-Err
returns-in-Err g c =
    Kit_not_read c.in-Err.unread c.in-Err.ensures.not_read c.in-Err.ensures.fault refl c.end.ensures
