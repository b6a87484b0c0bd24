use Rattle.std.specs.Prelude.{refl}
use Rattle.rr_books.specs.Book.{balance, holder, players}
use Rattle.rr_books.specs.Opening.{opening_moves, opening_payments, opening_trains}
use Rattle.rr_rounds.specs.Bids.Bids.{first_before, first_behind, highest, leader, tied_up}
use Rattle.rr_desk.specs.Incomes.{pay_incomes_of, pays_income}
use Rattle.rr_auction.specs.Effects.{gift, may_end, sale, settle, settle_each, settles}
use Rattle.rr_rounds.specs.Bids.Progress.{progress}
use Rattle.rr_rounds.specs.Bids.Unsold.{cheapest}
use Rattle.rr_auction.proofs.laws.worked_auction.Goals as goal

pub returns : goal.returns
unfolding balance holder players opening_moves opening_payments opening_trains first_before first_behind highest leader tied_up gift may_end pay_incomes_of pays_income sale settle settle_each settles progress cheapest
returns c = record {
  lawful = λ rows. (refl, (refl, (refl, (refl, (refl, (refl, tt))))));
  money = λ rows. refl;
}
