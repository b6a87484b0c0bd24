use Rattle.rr_auction.proofs.Dealing.{dealt_by}
use Rattle.rr_stock.specs.Effects.{entries_of}
use Rattle.rr_laws.proofs.SoundnessLemmas.StockActs.{goes_by_lawful}
use Rattle.rr_laws.proofs.soundness.laws.stock_stays_dealt.Goals as goal

pub returns : goal.returns
returns c n rows book act some lawful h dealt = dealt_by n (entries_of rows book act) book (goes_by_lawful n rows book act some lawful h).within dealt
