use Rattle.std.specs.Prelude.{refl}
use Rattle.rr_books.specs.Book.{balance, holder, players}
use Rattle.rr_books.specs.Shares.{share}
use Rattle.rr_market.specs.Marks.{mark_of}
use Rattle.rr_operate.specs.Dividends.Dividends.{pays_for, pays_out, pays_seats, withholds}
use Rattle.rr_operate.proofs.dividends.laws.worked_moves.Goals as goal

pub returns-clause-edge : goal.returns-clause-edge
unfolding balance holder players share mark_of pays_for pays_seats pays_out
returns-clause-edge c = record { up = refl; stays = refl }

pub returns-clause-withholding : goal.returns-clause-withholding
unfolding mark_of withholds
returns-clause-withholding c = record { left = refl; down = refl; stays = refl }
