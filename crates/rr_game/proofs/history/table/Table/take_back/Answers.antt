use Rattle.rr_turns.specs.declared.request.Request.TheVariants.{Back}
use Rattle.rr_game.proofs.history.table.Table.take_back.Goals as goal

pub returns-clause-played : goal.returns-clause-played
returns-clause-played c = λ before.
    c.take.ensures.played c.args.kit.now (Back c.args.turn) before (c.in_ok-change.ensures.change before)

pub returns-clause-named : goal.returns-clause-named
returns-clause-named c = λ before named.
    c.take.ensures.named c.args.kit.now (Back c.args.turn) before (c.in_ok-change.ensures.change before) c.in_ok-change.ensures.shows named
