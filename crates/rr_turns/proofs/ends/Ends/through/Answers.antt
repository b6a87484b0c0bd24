use Rattle.std.proofs.Common.{◌+◌, take, sym, ap, ◌∙◌}
use Rattle.rr_turns.proofs.PlaceLemmas.{kept-counts, place-take}
use Rattle.rr_turns.proofs.ends.Ends.through.Goals as goal

pub returns-in-Some : goal.returns-in-Some
returns-in-Some c =
    kept-counts c.self.inside.words c.drop_above.new.words c.in-Some.place c.in-Some.ensures.within c.drop_above.ensures.below c.drop_above.ensures.above
    ∙ sym (place-take c.self.inside.words c.args.turn c.in-Some.place c.in-Some.ensures)
    ∙ ap (take (c.args.turn + 1)) c.self.view_is
