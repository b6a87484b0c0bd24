use Rattle.std.proofs.Common.{◌<◌, length, arith, ◌∙◌, refl, inr}
use Rattle.std.proofs.lemmas.Grind.{common_steps}
use Rattle.std.proofs.lemmas.Result.{err_from_is_err_and}
use Rattle.rr_checker.proofs.StepLemmas.{yes, no}
use Rattle.rr_referee.specs.Sheets.{another}
use Rattle.rr_referee.proofs.CourseLemmas.{runs, refused_links, not_empty}
use Rattle.rr_referee.proofs.course.journey_of.Goals as goal

pub returns-then-not-is_its_word : goal.returns-then-not-is_its_word
returns-then-not-is_its_word c = inr (_, refl, another c.args.word.now refl (no c.is_its_word.ensures c.if-not-is_its_word.true) refl)

pub returns-in_err-journey : goal.returns-in_err-journey
returns-in_err-journey c =
    let p = err_from_is_err_and c.from_residual-in_err-journey.result c.from_residual-in_err-journey.ensures.1 in
    let told = c.is_empty.ensures in
    let tested = c.if-is_empty.false in
    let some : 0 < length c.in_ok-links.links.items = grind (arith, common_steps) in
    rw (p.1, p.2) (refused_links c.args.net.now c.args.limit.now c.args.word.now (yes c.is_its_word.ensures c.if-not-is_its_word.false) c.in_ok-links.links.items _
    (c.in_ok-links.ensures {u = tt}) (not_empty c.in_ok-links.links.items some) c.in_err-journey.ensures)

pub returns : goal.returns
returns c =
    let over = c.in_ok-journey.ensures {u = tt} in
    runs c.args.net.now c.args.limit.now c.args.word.now (yes c.is_its_word.ensures c.if-not-is_its_word.false) c.in_ok-journey.journey
    (over.0 ∙ c.in_ok-links.ensures {u = tt}) over.1
