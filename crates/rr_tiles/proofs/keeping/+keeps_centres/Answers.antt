use Rattle.std.proofs.Common.{sym, ◌∙◌}
use Rattle.rr_tiles.specs.Tile.{centres_of}
use Rattle.rr_tiles.proofs.KeepingLemmas.{keeps_centres-none, keeps_centres-no_new, keeps_centres-first, keeps_centres-not_first}
use Rattle.rr_tiles.proofs.keeping.+keeps_centres.Goals as goal

pub returns-in_default : goal.returns-in_default
returns-in_default t c = keeps_centres-none c.args.turn c.args.old.now c.args.new.now c.first_centre-in_default.result c.is_none.result c.in_default.ensures c.first_centre-in_default.ensures c.is_none.ensures

pub returns-in_default-first_centre : goal.returns-in_default-first_centre
returns-in_default-first_centre t c = keeps_centres-no_new c.args.turn c.args.old.now c.args.new.now c.in-Some.old_centre.now (centres_of c.in-Some.old_rest.now) c.in-Some.ensures.0 c.in_default-first_centre.ensures

pub returns-then-not-keeps_centre : goal.returns-then-not-keeps_centre
returns-then-not-keeps_centre t c = keeps_centres-not_first c.args.turn c.args.old.now c.args.new.now c.in-Some.old_centre.now c.in-Some-first_centre.new_centre.now (centres_of c.in-Some.old_rest.now) (centres_of c.in-Some-first_centre.new_rest.now) c.in-Some.ensures.0 c.in-Some-first_centre.ensures.0 (sym c.keeps_centre.ensures ∙ c.if-not-keeps_centre.true)

pub returns : goal.returns
returns t c = c.keeps_centres.ensures ∙ keeps_centres-first c.args.turn c.args.old.now c.args.new.now c.in-Some.old_centre.now c.in-Some-first_centre.new_centre.now (centres_of c.in-Some.old_rest.now) (centres_of c.in-Some-first_centre.new_rest.now) c.in-Some.ensures.0 c.in-Some-first_centre.ensures.0 (sym c.keeps_centre.ensures ∙ c.if-not-keeps_centre.false)
