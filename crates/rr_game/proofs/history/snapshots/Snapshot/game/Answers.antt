use Rattle.std.proofs.Common.{◌∙◌}
use Rattle.std.specs.Rc.{rc_slice_items}
use Rattle.rr_game.proofs.HistoryLemmas.GamesAgain.{game_again, game_there, values_read}
use Rattle.rr_game.proofs.history.snapshots.Snapshot.game.Goals as goal

pub unreachable-requires : goal.unreachable-requires
unreachable-requires c =
    values_read (rc_slice_items c.self.inside.bytes) c.as_slice.result.now c.self.inside.played c.as_slice.ensures.value c.self.inside.spelled c.in-None.ensures

pub unreachable-requires-in-None-2 : goal.unreachable-requires-in-None-2
unreachable-requires-in-None-2 c =
    game_there (rc_slice_items c.self.inside.bytes) c.as_slice.result.now c.self.inside.played c.in-Some.parts c.in_ok-game.field-0 c.as_slice.ensures.value c.self.inside.spelled c.in-Some.ensures
    c.in-None-2.is c.in_ok-game.ensures

pub returns-clause-value : goal.returns-clause-value
returns-clause-value c =
    game_again (rc_slice_items c.self.inside.bytes) c.as_slice.result.now c.self.inside.played c.in-Some.parts c.in_ok-game.field-0 c.in-Some-2.game c.as_slice.ensures.value c.self.inside.spelled c.in-Some.ensures
    c.in-Some-2.is c.in_ok-game.ensures ∙ c.self.view_is
