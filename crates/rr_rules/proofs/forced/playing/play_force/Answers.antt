use Rattle.std.specs.Prelude.{Option}
use Rattle.std.proofs.Common.{ap}
use Rattle.rr_desk.proofs.Taking.{takes_same}
use Rattle.rr_trains.specs.Depot.Situation.{situation_of}
use Rattle.rr_rules.specs.declared.forced.needs.Need.{Need}
use Rattle.rr_rules.specs.Forced.Effects.{forces_if}
use Rattle.rr_rules.specs.Forced.Needs.{cheapest_need}
use Rattle.rr_rules.proofs.ForcedLemmas.NeedsOfBook.{need_of_book}
use Rattle.rr_rules.proofs.forced.playing.play_force.Goals as goal

pub returns-clause-takes : goal.returns-clause-takes
returns-clause-takes c =
    let roster = c.args.roster.now in
    let corp = c.args.corp in
    takes_same (forces_if c.cheapest_need-need.result) (λ book. forces_if (cheapest_need roster (situation_of book) corp) book) c.args.desk.now c.force_if.new.desk
    (λ book h. ap (λ (n : Option Need). forces_if n book) (need_of_book roster corp book c.books.result.now c.args.desk.now.position.books c.cheapest_need-need.result c.books.ensures h.books c.cheapest_need-need.ensures.shown))
    c.in_ok-force_if.ensures.takes
