use Rattle.std.specs.List.{flat_map}
use Rattle.std.proofs.Common.{◌<◌, ◌++◌, length, take, arith}
use Rattle.std.proofs.lemmas.List.{length-take}
use Rattle.rr_words.specs.Spelling.OneWay.{next_of_row}
use Rattle.rr_words.proofs.SpellingLemmas.CountedLemmas.{same_count}
use Rattle.rr_words.proofs.spelling.counted.read_counted.Goals as goal

pub returns-then-slots-count : goal.returns-then-slots-count
returns-then-slots-count g c = λ values rest few fit same.
    let one = same_count g.T.Spell.form.spelling values c.in_ok-read.field-0 c.args.cursor.now c.read.new.cursor rest c.in_ok-read.ensures.0 (omega (arith, few, c.requires)) c.in_ok-read.ensures.1 same in
    omega (arith, one.0, few, c.if-slots-count.true, c.from-count.ensures)

pub returns-in_err-slots : goal.returns-in_err-slots
returns-in_err-slots g c =
    rw c.from_residual-in_err-slots.ensures (λ values rest few fit same.
    let one = same_count g.T.Spell.form.spelling values c.in_ok-read.field-0 c.args.cursor.now c.read.new.cursor rest c.in_ok-read.ensures.0 (omega (arith, few, c.requires)) c.in_ok-read.ensures.1 same in
    let from = same_count g.T.Spell.form.spelling values c.from-count.result c.args.cursor.now (flat_map g.T.Spell.form.spelling (take c.loop-index.index c.loop-index.slots) ++ c.loop-index.cursor) rest (omega (arith, c.in_ok-read.ensures.0, c.from-count.ensures)) (omega (arith, few, c.requires)) c.loop-index.invariant.front same in
    let fewer : length (take c.loop-index.index c.loop-index.slots) < length values = omega (arith, length-take c.loop-index.index c.loop-index.slots, c.loop-index-test.true, from.0) in
    let next = next_of_row g.T.Spell.form.spelling g.T.Spell.form.Fits g.T.Spell.form.one_way (take c.loop-index.index c.loop-index.slots) values c.loop-index.cursor rest fewer c.loop-index.invariant.fit fit from.1 in
    c.in_err-slots.ensures next.0 next.1 next.2 next.3)
