use Rattle.rr_world_laws.proofs.Sessions.{sessions_are_sound as proved}
use Rattle.rr_world_laws.proofs.sessions_are_sound.Goals as goal

pub returns : goal.returns
returns g c =
    proved g.D.Disk.Honest g.D.Disk.Works g.D.Disk.state g.D.Disk.past g.D.Disk.fault_count g.D.Disk.write_count g.D.Disk.sync_count
    g.met.D.Disk.content_may_stay c.whatever_comes_is_sound.ensures
