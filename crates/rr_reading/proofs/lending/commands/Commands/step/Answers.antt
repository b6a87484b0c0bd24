use Rattle.std.proofs.Common.{◌<◌, Err, length, ap, ◌∙◌, sym, subst}
use Rattle.std.proofs.lemmas.Result.{err_from_is_err_and}
use Rattle.rr_disk.specs.Disk.{DiskState}
use Rattle.rr_reading.specs.declared.lending.commands.Commands.{Commands}
use Rattle.rr_reading.specs.Lending.Chains.{left_of, piece_of}
use Rattle.rr_reading.specs.Lending.Commands.{rest_of, BeginsNone, IsCut}
use Rattle.rr_reading.proofs.LendingLemmas.CommandLemmas.{at_true, cut_so, some_left}
use Rattle.rr_reading.proofs.lending.commands.Commands.step.Goals as goal

pub returns-in_err-found-in-None-clause-cut : goal.returns-in_err-found-in-None-clause-cut
returns-in_err-found-in-None-clause-cut g c =
    let told = err_from_is_err_and c.from_residual-in_err-found-in-None.result c.from_residual-in_err-found-in-None.ensures.1 in
    let file = (g.D.Disk.state c.args.disk.now).content in
    let mid = c.begin.new.self in
    cut_so c.from_residual-in_err-found-in-None.result c.in_err-found-in-None.field-0.0 (told.1 ∙ ap (λ f. Err f) told.2)
    (λ none honest.
    let before = c.in_err-found-in-None.ensures.honest honest in
    let here : BeginsNone (rest_of file mid) =
    subst (λ (s : DiskState). BeginsNone (rest_of s.content mid)) (c.in_ok-more.ensures.same_state before)
    (subst (λ (m : Commands). BeginsNone (rest_of (g.D.Disk.state c.begin.new.disk).content m)) c.in-None.ensures.same (none honest)) in
    subst IsCut (sym (c.in_ok-more.ensures.rest before))
    (some_left (piece_of mid.chains) (left_of file mid.chains) mid.at (at_true (mid.at < length (piece_of mid.chains)) c.if-not-more.false c.in_ok-more.ensures.some), here))
    c.in_err-found-in-None.ensures.cut
