use Rattle.std.specs.List.{AllByRecursion, flat_map}
use Rattle.std.proofs.Common.{◌≡◌, ◌<◌, List, ◌++◌, arith, length, take, sym, ◌∙◌, ap, subst}
use Rattle.std.proofs.lemmas.List.{take_all, length-take}
use Rattle.rr_words.specs.Spelling.OneWay.{next_of_row}
use Rattle.rr_words.proofs.spelling.rows.ArraySpell.read.Goals as goal

pub returns : goal.returns
returns g c =
    let all : take c.loop-slot.slot-index c.loop-slot.slot-items ≡ c.loop-slot.slot-items = take_all c.loop-slot.slot-index c.loop-slot.slot-items (omega (arith, c.loop-slot-test.false)) in (
      (c.loop-slot.invariant.whole, subst (AllByRecursion g.T.Spell.form.Fits) all c.loop-slot.invariant.fit),
      c.loop-slot.invariant.front ∙ ap (λ (xs : List g.row.T.Denot). flat_map g.T.Spell.form.spelling xs ++ c.loop-slot.cursor) all,
    )

pub returns-in_err-slot : goal.returns-in_err-slot
returns-in_err-slot g c =
    rw c.from_residual.ensures (λ value rest fits same.
    let few : length (take c.loop-slot.slot-index c.loop-slot.slot-items) < length value = omega (arith, length-take c.loop-slot.slot-index c.loop-slot.slot-items, c.loop-slot-test.true, c.loop-slot.invariant.whole, fits.0) in
    let next = next_of_row g.T.Spell.form.spelling g.T.Spell.form.Fits g.T.Spell.form.one_way (take c.loop-slot.slot-index c.loop-slot.slot-items) value c.loop-slot.cursor rest few c.loop-slot.invariant.fit fits.1 (sym c.loop-slot.invariant.front ∙ same) in
    c.in_err-slot.ensures next.0 next.1 next.2 next.3)
