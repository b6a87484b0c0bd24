use Rattle.rr_shares.proofs.Keeping.{sales_keep, stays_with_a_seat}
use Rattle.rr_shares.proofs.laws.presidency_stays_with_a_seat.Goals as goal

pub returns-clause-bought : goal.returns-clause-bought
returns-clause-bought c corp book some = stays_with_a_seat corp book some

pub returns-clause-sold : goal.returns-clause-sold
returns-clause-sold c corp seller n book some = sales_keep corp seller n book some
