use Rattle.std.specs.Prelude.{◌++◌}
use Rattle.rr_auction.proofs.Dealing.{dealt_by}
use Rattle.rr_stock.specs.Effects.{entries_of}
use Rattle.rr_laws.proofs.SoundnessLemmas.Going.{solvent_without_debt}
use Rattle.rr_laws.proofs.SoundnessLemmas.StockActs.{goes_by_lawful}
use Rattle.rr_laws.proofs.soundness.laws.stock_stays_sound.Goals as goal

pub returns : goal.returns
returns c n rows book act some lawful h =
    let es = entries_of rows book act in
    let on = goes_by_lawful n rows book act some lawful h.solvent in
    record {
      solvent = solvent_without_debt n (book ++ es) on.later;
      dealt = dealt_by n es book on.within h.dealt;
      pool = c.pool_stays_within_half.ensures rows book act lawful h.pool;
    }
