use Rattle.std.proofs.Common.{ℕ, ◌∙◌, ◌++◌, ap, subst}
use Rattle.std.specs.Prelude.{option_map}
use Rattle.rr_roster.specs.Chart.Chart.{par_place}
use Rattle.rr_books.specs.Book.{Book}
use Rattle.rr_market.specs.Moves.{cell_of, mark_at}
use Rattle.rr_market.specs.State.{IsMarketOf}
use Rattle.rr_market.specs.StateLaws.{marked}
use Rattle.rr_market.proofs.market.Market.set.Goals as goal

pub returns-clause-book : goal.returns-clause-book
returns-clause-book c book h =
    let at = c.in-Some.ensures.value ∙ ap (λ (par : ℕ). option_map cell_of (par_place c.args.chart.now par)) c.from.ensures in
    subst (λ (entries : Book). IsMarketOf (book ++ entries) c.mark.new.self) (ap (mark_at c.args.corp) at)
    (marked c.args.self.now c.mark.new.self c.args.corp c.in-Some.cell book c.mark.ensures.marked h)
