use Rattle.rr_store.proofs.NamedRoots.{checkpoints_play_few, new_files_named, openings_play_few as few}
use Rattle.rr_store.proofs.laws.openings_play_few.Goals as goal

pub returns-clause-few : goal.returns-clause-few
returns-clause-few c = few

pub returns-clause-behind_a_checkpoint : goal.returns-clause-behind_a_checkpoint
returns-clause-behind_a_checkpoint c = checkpoints_play_few

pub returns-clause-new_files : goal.returns-clause-new_files
returns-clause-new_files c = new_files_named
