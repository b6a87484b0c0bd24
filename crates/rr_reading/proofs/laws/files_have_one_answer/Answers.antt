use Rattle.rr_reading.proofs.OneAnswer.{one_found, one_held}
use Rattle.rr_reading.proofs.Told.{one_damage, held_whole, held_store, damaged_store}
use Rattle.rr_reading.proofs.laws.files_have_one_answer.Goals as goal

pub returns-clause-held : goal.returns-clause-held
returns-clause-held _ = one_held

pub returns-clause-found : goal.returns-clause-found
returns-clause-found _ = one_found

pub returns-clause-damage : goal.returns-clause-damage
returns-clause-damage _ = one_damage

pub returns-clause-whole : goal.returns-clause-whole
returns-clause-whole _ = held_whole

pub returns-clause-store : goal.returns-clause-store
returns-clause-store _ = (held_store, damaged_store)
