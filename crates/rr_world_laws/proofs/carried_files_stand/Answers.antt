use Rattle.rr_store.proofs.Standing.{carried_keeps}
use Rattle.rr_world_laws.proofs.carried_files_stand.Goals as goal

pub returns : goal.returns
returns g c = λ texts carried. carried_keeps g.D.Disk.state c.args.store.now texts carried
