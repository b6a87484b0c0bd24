use Rattle.std.proofs.Common.{sym}
use Rattle.rr_cli.specs.Acting.{Made, Not_made}
use Rattle.rr_cli.proofs.acting.format.Goals as goal

pub returns-in-Ok : goal.returns-in-Ok
returns-in-Ok g c =
    rw (c.status.ensures)
    (Made c.acknowledge-ending.result
    (record {
      stops = λ honest empty none. c.format.ensures.stops honest (record { empty = empty; none = none });
      honest = c.format.ensures.honest;
      works = c.format.ensures.works;
      few_writes = c.format.ensures.few_writes;
      few_syncs = c.format.ensures.few_syncs;
    })
    c.in-Ok.ensures.right (λ honest full. let refused = c.format.ensures.empty honest full in cc)
    c.in-Ok.ensures.allowed c.in-Ok.ensures.no_fault c.in-Ok.ensures.writes c.acknowledge-ending.ensures)

pub returns-in-Err : goal.returns-in-Err
returns-in-Err g c =
    rw (c.status-in-Err.ensures)
    (Not_made c.in-Err.fault c.refuse-ending.result
    (record {
      stops = λ honest empty none. c.format.ensures.stops honest (record { empty = empty; none = none });
      honest = c.format.ensures.honest;
      works = c.format.ensures.works;
      few_writes = c.format.ensures.few_writes;
      few_syncs = c.format.ensures.few_syncs;
    })
    c.in-Err.ensures.refused (λ honest full. let refused = c.format.ensures.empty honest full in cc)
    c.in-Err.ensures.allowed c.in-Err.ensures.unchanged c.in-Err.ensures.fault c.in-Err.ensures.device (rw (sym c.from.ensures) c.refuse-ending.ensures))
