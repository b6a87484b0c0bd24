use Rattle.rr_world_laws.proofs.Services.{programs_go_on, services_go_on as proved, sessions_join}
use Rattle.rr_world_laws.proofs.services_go_on.Goals as goal

pub returns : goal.returns
returns g c =
    record {
      services = proved g.D.Disk.Honest g.D.Disk.Works g.D.Disk.state g.D.Disk.past g.D.Disk.fault_count g.D.Disk.write_count g.D.Disk.sync_count
          g.E.Disk.Honest g.E.Disk.Works g.E.Disk.state g.E.Disk.past g.E.Disk.fault_count g.E.Disk.write_count g.E.Disk.sync_count
          g.met.E.Disk.content_may_stay;
      programs = programs_go_on g.D.Disk.Honest g.D.Disk.Works g.D.Disk.state g.D.Disk.past g.D.Disk.fault_count g.D.Disk.write_count g.D.Disk.sync_count
          g.E.Disk.Honest g.E.Disk.Works g.E.Disk.state g.E.Disk.past g.E.Disk.fault_count g.E.Disk.write_count g.E.Disk.sync_count
          g.met.E.Disk.content_may_stay;
      join = sessions_join g.E.Disk.Honest g.E.Disk.Works g.E.Disk.state g.E.Disk.past g.E.Disk.fault_count g.E.Disk.write_count g.E.Disk.sync_count;
    }
