use Rattle.std.proofs.Common.{refl, sym}
use Rattle.rr_cli.specs.Acting.{Not_served, Served}
use Rattle.rr_cli.proofs.acting.serve.Goals as goal

pub returns-in-Ok : goal.returns-in-Ok
returns-in-Ok g c =
    rw (c.into_disk.ensures, c.status.ensures, c.ending_of-ending.ensures, sym c.in-Ok.ensures.1)
    (Served c.in-Ok.moderator c.serve.new.self c.serve.result c.serve.ensures.session.0 c.in-Ok.ensures.0
    c.serve.ensures.session.1 c.serve.ensures.session.3 c.serve.ensures.session.4 c.serve.ensures.session.5 c.serve.ensures.session.2 refl)

pub returns-in-Err : goal.returns-in-Err
returns-in-Err g c = Not_served c.in-Err.refused.0 c.in-Err.ensures refl
