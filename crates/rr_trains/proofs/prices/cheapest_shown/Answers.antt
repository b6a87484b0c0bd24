use Rattle.std.specs.Prelude.{slice_index_or}
use Rattle.std.proofs.Common.{sym, ◌∙◌, ap, Option, None}
use Rattle.std.proofs.lemmas.List.Sums.{fold_more}
use Rattle.rr_roster.specs.declared.company.Kind.TheVariants as K
use Rattle.rr_roster.specs.declared.sources.TrainSource.TheVariants as S
use Rattle.rr_books.specs.State.{train_place_of}
use Rattle.rr_trains.specs.declared.prices.TrainOnSale.{TrainOnSale}
use Rattle.rr_trains.specs.Sales.{better, every_offer}
use Rattle.rr_trains.proofs.prices.cheapest_shown.Goals as goal

pub loop-offer-preserved : goal.loop-offer-preserved
loop-offer-preserved c =
    let choose = better (train_place_of c.args.books.now) c.args.roster.now in
    let first : TrainOnSale = record { kind = K.Two; source = S.Bank } in
    let next = slice_index_or every_offer c.loop-offer.offer-index first in
    c.better-best.ensures
    ∙ ap (λ (best : Option TrainOnSale). choose best next) c.loop-offer.invariant
    ∙ sym (fold_more choose None every_offer c.loop-offer.offer-index first c.loop-offer-test.true)
