use Rattle.std.proofs.Common.{refl, sym, ◌∙◌}
use Rattle.std.specs.Rc.{rc_slice_items}
use Rattle.rr_game.proofs.HistoryLemmas.GamesAgain.{spelled_read, values_read, values_sound}
use Rattle.rr_game.proofs.history.snapshots.Snapshot.read.Goals as goal

pub returns-in-None-clause-value : goal.returns-in-None-clause-value
returns-in-None-clause-value c = λ count spelled. values_read (rc_slice_items c.args.bytes.now) c.as_slice.result.now count c.as_slice.ensures.value spelled c.in-None.ensures

pub returns-then-not-are_sound-clause-value : goal.returns-then-not-are_sound-clause-value
returns-then-not-are_sound-clause-value c = λ count spelled.
    values_sound (rc_slice_items c.args.bytes.now) c.as_slice.result.now count c.in-Some.parts c.are_sound.result c.as_slice.ensures.value spelled c.in-Some.ensures c.are_sound.ensures c.if-not-are_sound.true

abbrev pub invariant_of-result : goal.invariant_of-result
invariant_of-result c = (
  spelled_read c.as_slice.result.now (rc_slice_items c.in_ok-clone.field-0) c.in-Some.parts.played c.in-Some.parts (c.in_ok-clone.ensures.cases ∙ sym c.as_slice.ensures.value) refl
      c.in-Some.ensures (c.are_sound.ensures.0 c.if-not-are_sound.false),
  tt,
)
