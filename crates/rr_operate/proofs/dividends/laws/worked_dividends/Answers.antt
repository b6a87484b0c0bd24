use Rattle.std.specs.Prelude.{refl}
use Rattle.rr_books.specs.Book.{balance, holder, players}
use Rattle.rr_books.specs.Shares.{share}
use Rattle.rr_market.specs.Marks.{mark_of}
use Rattle.rr_operate.specs.Dividends.Dividends.{pays_for, pays_out, pays_seats}
use Rattle.rr_operate.proofs.dividends.laws.worked_dividends.Goals as goal

pub returns-clause-dividend : goal.returns-clause-dividend
unfolding balance holder players share mark_of pays_for pays_seats pays_out
returns-clause-dividend c = record { entries = refl; bank_before = refl; bank = refl; seat = refl; corporation = refl }

pub returns-clause-debt : goal.returns-clause-debt
unfolding balance holder players share mark_of pays_for pays_seats pays_out
returns-clause-debt c = record { before = refl; bank = refl; owed = refl; seat = refl }
