use Rattle.rr_laws.proofs.EachVerdict.{each_has}
use Rattle.rr_laws.proofs.Wanting.{none_wants}
use Rattle.rr_laws.proofs.each_command_has_a_verdict.Goals as goal

pub returns : goal.returns
returns c = record { some = each_has; one = c.commands_have_one_verdict.ensures; never_memory = none_wants }
