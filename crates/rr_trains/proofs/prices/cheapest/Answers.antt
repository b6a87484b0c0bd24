use Rattle.std.proofs.Common.{sym, ◌∙◌, ap, subst, Option}
use Rattle.std.proofs.Math.Path.{fun_ext}
use Rattle.rr_books.specs.declared.certificates.Train.{Train}
use Rattle.rr_books.specs.Book.{train_holder}
use Rattle.rr_trains.specs.declared.prices.TrainOnSale.{TrainOnSale}
use Rattle.rr_market.specs.Operations.Phases.{TrainHolders}
use Rattle.rr_trains.specs.Sales.{IsCheapest, cheapest}
use Rattle.rr_trains.specs.SaleLaws.{cheapest_leads}
use Rattle.rr_trains.proofs.prices.cheapest.Goals as goal

pub returns-clause-book : goal.returns-clause-book
returns-clause-book c book h = c.cheapest_shown.ensures ∙ ap (λ (T : TrainHolders). cheapest T c.args.roster.now) (fun_ext (λ (t : Train). sym (h.train_holders t)))

pub returns-clause-first : goal.returns-clause-first
returns-clause-first c book h =
    subst (λ (o : Option TrainOnSale). IsCheapest (train_holder book) c.args.roster.now o) (sym (returns-clause-book c book h)) (cheapest_leads (train_holder book) c.args.roster.now)
