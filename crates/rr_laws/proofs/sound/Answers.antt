use Rattle.rr_laws.proofs.SoundTables.{sound_along}
use Rattle.rr_laws.proofs.StockOrder.{StockLaws}
use Rattle.rr_laws.proofs.sound.Goals as goal

pub returns : goal.returns
returns c kit commands order played =
    let laws : StockLaws = record { pool = c.pool_stays_within_half.ensures; sales = c.lawful_sales_move_shares.ensures; shares = c.sales_move_shares.ensures } in
    sound_along laws kit commands order played
