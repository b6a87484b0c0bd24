use Rattle.rr_tables.proofs.RecordLemmas.WordLemmas.{have_one_in_words, of_form, one_of_commands}
use Rattle.rr_tables.proofs.records.laws.spelled_worlds_are_one.Goals as goal

pub returns : goal.returns
returns c = record { words = have_one_in_words; commands = one_of_commands; of_form = of_form }
