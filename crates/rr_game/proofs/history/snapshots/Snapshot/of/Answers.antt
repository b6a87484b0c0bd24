use Rattle.std.proofs.Common.{◌∙◌}
use Rattle.std.specs.Rc.{rc_slice_items}
use Rattle.rr_game.specs.History.GameBytes.{one_spelled}
use Rattle.rr_game.proofs.HistoryLemmas.GamesAgain.{spelled_by}
use Rattle.rr_game.proofs.history.snapshots.Snapshot.of.Goals as goal

abbrev pub invariant_of-result : goal.invariant_of-result
invariant_of-result c = (
  spelled_by (rc_slice_items c.in_ok-from_vec.field-0) c.in_ok-bytes.bytes.items c.played.result c.parts.result c.args.game.now c.played.ensures.shown c.in_ok-bytes.ensures.items
      (c.in_ok-from_vec.ensures ∙ c.shrink_to_fit.ensures.items ∙ c.in_ok-write.ensures.bytes)
      c.parts.ensures.value c.parts.ensures.sound c.in_ok-write.ensures.fits,
  tt,
)

pub returns-clause-value : goal.returns-clause-value
returns-clause-value c =
    let spelled = spelled_by (rc_slice_items c.in_ok-from_vec.field-0) c.in_ok-bytes.bytes.items c.played.result c.parts.result c.args.game.now c.played.ensures.shown c.in_ok-bytes.ensures.items
    (c.in_ok-from_vec.ensures ∙ c.shrink_to_fit.ensures.items ∙ c.in_ok-write.ensures.bytes)
    c.parts.ensures.value c.parts.ensures.sound c.in_ok-write.ensures.fits in
    one_spelled (rc_slice_items c.in_ok-from_vec.field-0) c.played.result _ c.args.game.now (assumption) spelled.1
