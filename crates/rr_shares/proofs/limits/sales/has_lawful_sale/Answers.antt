use Rattle.std.proofs.Common.{sym, ◌∙◌, ap}
use Rattle.rr_rounds.specs.Round.{Round, is_first, progress}
use Rattle.rr_shares.specs.Limits.Holdings.{Holdings, holdings_of}
use Rattle.rr_shares.specs.Limits.HoldingLaws.{holdings-of_book}
use Rattle.rr_shares.specs.Limits.Sales.{has_lawful_sale}
use Rattle.rr_shares.specs.Limits.SaleLaws.{one_share_suffices}
use Rattle.rr_shares.proofs.limits.sales.has_lawful_sale.Goals as goal

pub returns-clause-book : goal.returns-clause-book
returns-clause-book c book h =
    c.sells_one_of_any.ensures
    ∙ ap (λ (x : Holdings). has_lawful_sale x (is_first c.args.position.now.rounds) c.args.seat) (holdings-of_book c.args.chart.now book c.args.position.now h)
    ∙ ap (λ (r : Round). has_lawful_sale (holdings_of c.args.chart.now book) (is_first r) c.args.seat) (sym h.rounds)

pub returns-clause-sale : goal.returns-clause-sale
returns-clause-sale c book h =
    let law = one_share_suffices (holdings_of c.args.chart.now book) (is_first (progress book)) c.args.seat in
    rw (returns-clause-book c book h) law
