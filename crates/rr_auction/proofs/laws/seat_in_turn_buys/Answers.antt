use Rattle.std.specs.Prelude.{not}
use Rattle.rr_books.specs.Book.{holder}
use Rattle.rr_rounds.specs.Bids.Progress.{progress}
use Rattle.rr_auction.specs.Rules.{due_in, is_turn}
use Rattle.rr_auction.proofs.TurnCounts.{in_turn_buys}
use Rattle.rr_auction.proofs.laws.seat_in_turn_buys.Goals as goal

pub returns : goal.returns
returns c roster rows book s lawful = in_turn_buys (not (is_turn (due_in (holder book) (progress book)))) s (progress book).turn _ lawful
