use Rattle.std.specs.Prelude.{Bool, not, Some}
use Rattle.std.proofs.Common.{ap}
use Rattle.std.proofs.lemmas.Bool.{cond-true}
use Rattle.rr_books.specs.Book.{holder}
use Rattle.rr_books.specs.declared.refusal.Refusal.TheVariants as F
use Rattle.rr_rounds.specs.Bids.Progress.{progress}
use Rattle.rr_auction.specs.Rules.{takes_bids}
use Rattle.rr_auction.proofs.TurnCounts.{takes_none}
use Rattle.rr_auction.proofs.laws.free_private_is_bought.Goals as goal

pub returns : goal.returns
returns c roster rows book s first free =
    let closed = ap (λ (b : Bool). not b) (takes_none roster book first free) in
    let refused = not (takes_bids roster (holder book) (progress book)) in
    (λ p n. cond-true refused (Some F.WrongStep) _ closed, cond-true refused (Some F.WrongStep) _ closed)
