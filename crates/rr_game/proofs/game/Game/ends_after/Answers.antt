use Rattle.std.proofs.Common.{sym, ◌∙◌}
use Rattle.rr_game.proofs.TurnEnds.{later, no_end, one_end, within_still, within_with}
use Rattle.rr_game.proofs.game.Game.ends_after.Goals as goal

pub returns-then-not-ends_turn-clause-ends : goal.returns-then-not-ends_turn-clause-ends
returns-then-not-ends_turn-clause-ends c = λ kit accepted h standing.
    no_end kit accepted c.args.command.now c.args.self.now h
    (sym c.if-not-ends_turn.true ∙ c.ends_turn.ensures kit accepted h.standing standing)

pub returns-then-not-ends_turn-clause-within : goal.returns-then-not-ends_turn-clause-within
returns-then-not-ends_turn-clause-within c = within_still c.args.self.now.played c.args.self.now.ends c.args.self.now.within

pub add-requires-clause-later : goal.add-requires-clause-later
add-requires-clause-later c = later c.args.self.now.played c.args.self.now.ends c.args.self.now.within

pub returns-clause-ends : goal.returns-clause-ends
returns-clause-ends c = λ kit accepted h standing.
    one_end kit accepted c.args.command.now c.args.self.now c.add.new.self h
    (sym c.if-not-ends_turn.false ∙ c.ends_turn.ensures kit accepted h.standing standing) c.add.ensures

pub returns-clause-within : goal.returns-clause-within
returns-clause-within c = within_with c.args.self.now.played c.args.self.now.ends c.add.new.self c.args.self.now.within c.add.ensures
