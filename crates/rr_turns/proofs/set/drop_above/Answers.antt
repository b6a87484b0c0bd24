use Rattle.std.proofs.Common.{◌≡◌, ◌/◌, ◌∙◌, ap, inl, inr, length, arith}
use Rattle.std.specs.Int.{bit_at}
use Rattle.std.proofs.lemmas.Bool.{cases_lt}
use Rattle.std.proofs.lemmas.List.{get_or_past}
use Rattle.rr_turns.proofs.SetLemmas.{kept-above, kept-below, set-kept}
use Rattle.rr_turns.proofs.set.drop_above.Goals as goal

pub returns-clause-below : goal.returns-clause-below
returns-clause-below c = λ other le.
    let all : length c.loop-index.words ≡ 64 = omega arith in
    kept-below c.args.words.now c.loop-index.words c.args.place c.low_bits.result other all c.requires
    (λ k less. c.loop-index.invariant.same k (omega (arith, less)))
    (λ k low. c.low_bits.ensures.below k low ∙ ap (λ n. bit_at n k) (c.loop-index.invariant.same (c.args.place / 64) (omega arith)))
    le

pub returns-clause-above : goal.returns-clause-above
returns-clause-above c = λ other lt.
    let all : length c.loop-index.words ≡ 64 = omega arith in
    kept-above c.loop-index.words c.args.place c.low_bits.result other all c.requires
    (λ k above. elim (cases_lt k c.loop-index.index) [
      | inl before ↦ c.loop-index.invariant.none k above before
      | inr past ↦ get_or_past c.loop-index.words k 0 (omega (arith, past, all, c.loop-index-test.false))
    ])
    c.low_bits.ensures.above lt

pub returns-clause-set : goal.returns-clause-set
returns-clause-set c = λ h.
    let all : length c.loop-index.words ≡ 64 = omega arith in
    set-kept c.args.words.now c.loop-index.words c.args.place c.low_bits.result c.loop-index.index h all c.requires c.loop-index-test.false
    c.loop-index.invariant.same c.loop-index.invariant.none c.low_bits.ensures.less
    (kept-below c.args.words.now c.loop-index.words c.args.place c.low_bits.result 0 all c.requires
    (λ k less. c.loop-index.invariant.same k (omega (arith, less)))
    (λ k low. c.low_bits.ensures.below k low ∙ ap (λ n. bit_at n k) (c.loop-index.invariant.same (c.args.place / 64) (omega arith)))
    (omega arith))
