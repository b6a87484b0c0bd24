use Rattle.rr_reading.proofs.LendingLemmas.CommandLemmas.{kept_none, kept_more, kept_cut, kept_behind, kept_first}
use Rattle.rr_reading.proofs.lending.laws.commands_are_the_kept_ones.Goals as goal

pub returns : goal.returns
returns _ = record { none = kept_none; more = kept_more; cut = kept_cut; behind = kept_behind; first = kept_first }
