use Rattle.std.proofs.Common.{refl, sym}
use Rattle.rr_cli.proofs.acting.open.Goals as goal

pub returns-in-Ok : goal.returns-in-Ok
returns-in-Ok g c = (
  record {
    honest = c.in-Ok.ensures.honest;
    works = c.in-Ok.ensures.works;
    opens = c.in-Ok.ensures.opened;
    stands = c.in-Ok.ensures.stands;
    carries = c.in-Ok.ensures.carries;
    played = c.in-Ok.ensures.played;
    kit = c.in-Ok.ensures.kit;
    whole = c.in-Ok.ensures.whole;
    no_fault = c.in-Ok.ensures.no_fault;
    no_write = c.in-Ok.ensures.writes;
    one_sync = c.in-Ok.ensures.syncs;
  },
  refl,
)

pub returns-in-Err : goal.returns-in-Err
returns-in-Err g c = record {
  fault = c.in-Err.refused.fault;
  left = c.in-Err.ensures.left;
  only = c.in-Err.ensures.only;
  honest = c.in-Err.ensures.honest_left;
  works = c.in-Err.ensures.works_left;
  counts = c.in-Err.ensures.fault;
  device = c.in-Err.ensures.device;
  no_write = c.in-Err.ensures.writes_left;
  one_sync = c.in-Err.ensures.syncs_left;
  ending = c.refuse-ending.result;
  ends = c.status.ensures;
  written = rw (sym c.from.ensures) c.refuse-ending.ensures;
}
