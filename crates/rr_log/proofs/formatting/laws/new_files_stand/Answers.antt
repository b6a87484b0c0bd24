use Rattle.rr_log.proofs.FormattingLemmas.Moments.{new_files_stand}
use Rattle.rr_log.proofs.formatting.laws.new_files_stand.Goals as goal

pub returns : goal.returns
returns g c = new_files_stand g.R.Rules.rules
