use Rattle.std.proofs.Common.{◌∙◌, arith}
use Rattle.rr_books.specs.declared.parties.Place.TheVariants as L
use Rattle.rr_books.specs.State.{train_place_of}
use Rattle.rr_trains.proofs.DepotLemmas.CorpCounts.{kinds_all, kinds_few}
use Rattle.rr_trains.proofs.depot.limits.held_by_corps.Goals as goal

pub count_kind-requires : goal.count_kind-requires
count_kind-requires c = λ corp.
    let few = kinds_few (train_place_of c.args.books.now) (L.Corp corp) c.loop-kind.kind-index (omega (arith, c.loop-kind-test.true)) in
    omega (arith, few, c.loop-kind.invariant corp, c.loop-kind-test.true)

pub returns : goal.returns
returns c = λ corp.
    c.loop-kind.invariant corp
    ∙ kinds_all (train_place_of c.args.books.now) (L.Corp corp) c.loop-kind.kind-index (omega (arith, c.loop-kind-test.false))
