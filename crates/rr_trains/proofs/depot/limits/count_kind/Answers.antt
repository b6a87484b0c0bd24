use Rattle.std.proofs.Common.{◌≡◌, ℕ, cond, ◌∙◌, ap, arith}
use Rattle.rr_books.specs.declared.parties.Place.TheVariants as L
use Rattle.rr_books.specs.Shares.{is_at}
use Rattle.rr_trains.proofs.DepotLemmas.CorpCounts.{seen_all, seen_at, seen_few, seen_next, seen_none}
use Rattle.rr_trains.proofs.depot.limits.count_kind.Goals as goal

pub loop-number-init : goal.loop-number-init
loop-number-init c = λ corp. omega (arith, seen_none c.args.books.now (L.Corp corp) c.args.kind)

pub count_train-requires : goal.count_train-requires
count_train-requires c = λ corp.
    let few = seen_few c.args.books.now (L.Corp corp) c.args.kind c.loop-number.number (omega (arith, c.loop-number-test.true, c.train_count-number-end.ensures.bound)) in
    omega (arith, few, c.loop-number.invariant corp, c.requires corp)

pub loop-number-preserved : goal.loop-number-preserved
loop-number-preserved c = λ corp.
    let next = seen_next c.args.books.now (L.Corp corp) c.args.kind c.loop-number.number (omega (arith, c.loop-number-test.true, c.train_count-number-end.ensures.bound)) in
    let holder = ap (λ place. cond {A = ℕ} (is_at place (L.Corp corp)) 1 0) c.train_holder.ensures.shown in
    omega (arith, c.count_train.ensures corp, c.loop-number.invariant corp, next, holder)

pub returns : goal.returns
returns c = λ corp.
    let all : c.loop-number.number ≡ c.train_count-number-end.result = omega arith in
    let seen = ap (seen_at c.args.books.now (L.Corp corp) c.args.kind) (all ∙ c.train_count-number-end.ensures.shown) in
    omega (arith, c.loop-number.invariant corp, seen, seen_all c.args.books.now (L.Corp corp) c.args.kind)
