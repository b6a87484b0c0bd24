use Rattle.rr_reading.proofs.WorldLemmas.ReadBack.{read_back, written}
use Rattle.rr_reading.proofs.worlds.laws.worlds_are_read_back.Goals as goal

pub returns-clause-written : goal.returns-clause-written
returns-clause-written g _ = read_back g.R.Rules.rules

pub returns-clause-read : goal.returns-clause-read
returns-clause-read g _ = written g.R.Rules.rules
