use Rattle.rr_turns.proofs.SetLemmas.{held-with, others-with, set-with}
use Rattle.rr_turns.proofs.set.put.Goals as goal

pub returns-clause-held : goal.returns-clause-held
returns-clause-held c = held-with c.args.words.now c.args.place c.told-words c.requires

pub returns-clause-others : goal.returns-clause-others
returns-clause-others c = λ other apart. others-with c.args.words.now c.args.place other c.told-words c.requires apart

pub returns-clause-set : goal.returns-clause-set
returns-clause-set c = λ h. set-with c.args.words.now c.args.place c.requires h
