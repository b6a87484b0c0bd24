use Rattle.std.proofs.Common.{◌≡◌, ◌∙◌, ◌+◌, ℕ, take, sym, ap, arith}
use Rattle.std.specs.Prelude.{sum_by}
use Rattle.std.proofs.lemmas.List.Sums.{sum_by_more}
use Rattle.rr_roster.specs.declared.company.Kind.TheVariants as K
use Rattle.rr_roster.specs.Company.{kinds}
use Rattle.rr_books.specs.State.{train_place_of}
use Rattle.rr_trains.specs.Places.{trains_at}
use Rattle.rr_trains.proofs.places.counted.Goals as goal

pub loop-kind-preserved : goal.loop-kind-preserved
loop-kind-preserved c =
    let counts = trains_at (train_place_of c.args.books.now) c.args.place in
    record {
      total = ap (λ (n : ℕ). n + c.trains_at-total.result) c.loop-kind.invariant.total ∙ ap (λ (n : ℕ). sum_by counts (take c.loop-kind.kind-index kinds) + n) c.trains_at-total.ensures.shown
          ∙ sym (sum_by_more counts kinds c.loop-kind.kind-index K.Two c.loop-kind-test.true);
      bound = omega arith;
    }

pub returns-clause-value : goal.returns-clause-value
returns-clause-value c =
    let all : c.loop-kind.kind-index ≡ 6 = omega arith in
    let counts = trains_at (train_place_of c.args.books.now) c.args.place in
    c.loop-kind.invariant.total ∙ ap (λ (n : ℕ). sum_by counts (take n kinds)) all
