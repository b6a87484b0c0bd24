use Rattle.std.proofs.Common.{◌≡◌, ◌+◌, ◌*◌, length, arith, sym, ◌∙◌, ap}
use Rattle.rr_turns.specs.Counts.{is_held, numbers_with}
use Rattle.rr_turns.proofs.CountLemmas.{length-fails, length-passes}
use Rattle.rr_turns.proofs.set.place_in.Goals as goal
use Rattle.rr_turns.proofs.set.place_in.Goals.{then-holds+else-left-eq0, else-holds}

pub loop-place-preserved : goal.loop-place-preserved
loop-place-preserved c =
    let test = is_held c.args.words.now in
    elim c.if-holds.branch [
      | then-holds+else-left-eq0 w ↦ omega (arith, c.loop-place.invariant, w.left-is, w.if-left-eq0.false, length-passes test c.loop-place.place (sym c.holds.ensures ∙ w.if-holds.true))
      | else-holds w ↦ omega (arith, c.loop-place.invariant, w.left-is, length-fails test c.loop-place.place (sym c.holds.ensures ∙ w.if-holds.false))
    ]

pub unreachable-requires : goal.unreachable-requires
unreachable-requires c =
    let test = is_held c.args.words.now in
    let end : c.loop-place.place ≡ 64 * (c.args.index + 1) = omega (arith, c.loop-place.auto.place-end, c.loop-place-test.false) in
    let same : length (numbers_with test c.loop-place.place) ≡ length (numbers_with test (64 * (c.args.index + 1))) = ap (λ k. length (numbers_with test k)) end in
    omega (arith, same, c.requires.held, c.loop-place.invariant)
