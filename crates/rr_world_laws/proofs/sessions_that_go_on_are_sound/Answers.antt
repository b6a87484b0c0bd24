use Rattle.rr_world_laws.proofs.Sessions.{sound_sessions_go_on}
use Rattle.rr_world_laws.proofs.sessions_that_go_on_are_sound.Goals as goal

pub returns : goal.returns
returns g c =
    sound_sessions_go_on g.D.Disk.Honest g.D.Disk.Works g.D.Disk.state g.D.Disk.past g.D.Disk.fault_count g.D.Disk.write_count g.D.Disk.sync_count
    g.E.Disk.Honest g.E.Disk.Works g.E.Disk.state g.E.Disk.past g.E.Disk.fault_count g.E.Disk.write_count g.E.Disk.sync_count
    g.met.E.Disk.content_may_stay c.whatever_comes_is_sound.ensures
