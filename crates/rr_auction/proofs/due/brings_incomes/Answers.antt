use Rattle.std.proofs.Common.{ℕ, sym, ◌∙◌, ap}
use Rattle.rr_books.specs.Book.{players}
use Rattle.rr_books.specs.State.{State, holder_in}
use Rattle.rr_auction.specs.Effects.{brings_incomes}
use Rattle.rr_auction.proofs.Standing.{by_views}
use Rattle.rr_auction.proofs.due.brings_incomes.Goals as goal

pub returns : goal.returns
returns c book h =
    c.brings_by.ensures
    ∙ ap (λ (n : ℕ). brings_incomes n (holder_in c.books.result.now) c.bidding.result.now) (ap (λ (s : State). s.players) c.books.ensures ∙ sym h.books.players)
    ∙ by_views (λ H a. brings_incomes (players book) H a) book c.args.position.now c.books.result.now c.bidding.result.now c.books.ensures c.bidding.ensures h
