use Rattle.std.proofs.Common.{refl, sym, ◌∙◌}
use Rattle.rr_code.proofs.TextLemmas.{one_answer}
use Rattle.rr_code.proofs.laws.one_spelling.Goals as goal

pub returns-clause-read_back : goal.returns-clause-read_back
returns-clause-read_back _ = λ command answer is_command read. read.only command (record { command = is_command; spelled = refl })

pub returns-clause-nothing_else : goal.returns-clause-nothing_else
returns-clause-nothing_else _ = λ bytes command read. read.found.spelled

pub returns-clause-one_text : goal.returns-clause-one_text
returns-clause-one_text _ = λ first second command spells_first spells_second. spells_first.spelled ∙ sym spells_second.spelled

pub returns-clause-one_answer : goal.returns-clause-one_answer
returns-clause-one_answer _ = one_answer
