use Rattle.rr_laws.proofs.SoundnessLemmas.StockPresidents.{governed_by_command}
use Rattle.rr_laws.proofs.soundness.laws.stock_stays_governed.Goals as goal

pub returns : goal.returns
returns c n rows book act some few lawful solvent h = governed_by_command c.lawful_sales_move_shares.ensures n rows book act some few lawful solvent h
