use Rattle.rr_laws.proofs.SoundnessLemmas.Going.{solvent_without_debt}
use Rattle.rr_laws.proofs.SoundnessLemmas.StockActs.{goes_by_lawful}
use Rattle.rr_laws.proofs.soundness.laws.stock_stays_solvent.Goals as goal

pub returns : goal.returns
returns c n rows book act some lawful h = solvent_without_debt n _ (goes_by_lawful n rows book act some lawful h).later
