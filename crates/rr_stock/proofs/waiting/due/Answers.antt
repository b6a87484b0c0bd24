use Rattle.std.proofs.Common.{sym, ◌∙◌, ap}
use Rattle.rr_rounds.specs.Round.{Round}
use Rattle.rr_stock.specs.Due.{due_in}
use Rattle.rr_stock.proofs.waiting.due.Goals as goal

pub returns-clause-book : goal.returns-clause-book
returns-clause-book c book h = c.seat_due.ensures ∙ ap (λ (r : Round). due_in r) (sym h.rounds)
