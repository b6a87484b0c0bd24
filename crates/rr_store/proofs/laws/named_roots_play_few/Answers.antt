use Rattle.std.proofs.Common.{refl}
use Rattle.rr_store.proofs.NamedRoots.{calls_keep_names, named_roots_play_few as proved, none_coming}
use Rattle.rr_store.proofs.laws.named_roots_play_few.Goals as goal

pub returns-clause-images : goal.returns-clause-images
returns-clause-images g c = proved g.D.Disk.state

pub returns-clause-at_rest : goal.returns-clause-at_rest
returns-clause-at_rest g c = λ texts store rests none carries. none_coming g.D.Disk.state store texts rests none carries

pub returns-clause-lends : goal.returns-clause-lends
returns-clause-lends g c = λ texts store short carries had. record { snapshots = had; short = short store.tables refl carries.played }

pub returns-clause-calls : goal.returns-clause-calls
returns-clause-calls g c = calls_keep_names g.D.Disk.state
