use Rattle.rr_store.proofs.Sessions.{opening_and_request, parts_are_left, sessions_are_safe as proved}
use Rattle.rr_store.proofs.laws.sessions_are_safe.Goals as goal

pub returns : goal.returns
returns g c =
    record {
      safe = proved g.D.Disk.Honest g.D.Disk.Works g.D.Disk.state g.D.Disk.past g.D.Disk.fault_count g.D.Disk.write_count g.D.Disk.sync_count g.met.D.Disk.content_may_stay;
      parts = parts_are_left;
      example = opening_and_request g.D.Disk.Honest g.D.Disk.Works g.D.Disk.state g.D.Disk.past g.D.Disk.fault_count g.D.Disk.write_count g.D.Disk.sync_count g.met.D.Disk.content_may_stay;
    }
