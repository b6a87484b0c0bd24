use Rattle.std.proofs.Common.{◌∙◌, ap}
use Rattle.rr_books.specs.Shares.{Holders}
use Rattle.rr_books.specs.ShareLaws.{holder-of_state}
use Rattle.rr_desk.specs.Effects.{lowest_share}
use Rattle.rr_desk.proofs.shares.lowest_share.Goals as goal

pub returns-clause-book : goal.returns-clause-book
returns-clause-book c book h =
    c.first_share_at.ensures
    ∙ ap (λ (H : Holders). lowest_share H c.args.corp c.args.place) (holder-of_state book c.args.books.now h)
