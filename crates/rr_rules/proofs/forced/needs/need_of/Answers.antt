use Rattle.std.proofs.Common.{◌∙◌, ap, inr}
use Rattle.rr_roster.specs.Terms.{Terms}
use Rattle.rr_trains.specs.Depot.Situation.{situation_of}
use Rattle.rr_rules.specs.Forced.Needs.{cheapest_need}
use Rattle.rr_rules.proofs.ForcedLemmas.NeedsOfBook.{need_of_book}
use Rattle.rr_rules.proofs.forced.needs.need_of.Goals as goal

pub returns-clause-need : goal.returns-clause-need
returns-clause-need c book h =
    let corp = c.in-Some.corp in
    let owes = (c.in_ok-owes_train.ensures.owes book h).0 c.if-not-branch.false in
    let told = need_of_book c.roster.result.now corp book c.books.result.now c.args.position.now.books c.cheapest_need.result c.books.ensures h.books c.cheapest_need.ensures.shown in
    rw c.in-Some.is (inr (owes, told ∙ ap (λ (roster : Terms). cheapest_need roster (situation_of book) corp) c.roster.ensures))
