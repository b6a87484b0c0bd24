use Rattle.rr_moderator.proofs.AlongLemmas.{none_fails}
use Rattle.rr_moderator.proofs.laws.none_fails_while_working.Goals as goal

pub returns : goal.returns
returns g c = none_fails g.D.Disk.Honest g.D.Disk.Works g.D.Disk.state g.D.Disk.past g.D.Disk.fault_count g.D.Disk.write_count g.D.Disk.sync_count
