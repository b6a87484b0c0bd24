use Rattle.rr_world_laws.proofs.Times.{services_keep_in_time as proved}
use Rattle.rr_world_laws.proofs.services_keep_in_time.Goals as goal

pub returns : goal.returns
returns g c = proved g.D.Disk.Honest g.D.Disk.Works g.D.Disk.state g.D.Disk.past g.D.Disk.fault_count g.D.Disk.write_count g.D.Disk.sync_count
