use Rattle.std.proofs.Common.{◌<◌, Err, length, ap, ◌∙◌, subst}
use Rattle.std.proofs.lemmas.Result.{err_from_is_err_and}
use Rattle.rr_disk.specs.Disk.{DiskState}
use Rattle.rr_reading.specs.Lending.Commands.{bytes_of, rest_of}
use Rattle.rr_reading.proofs.LendingLemmas.CommandLemmas.{crossing_cut, cut_so, length_cut}
use Rattle.rr_reading.proofs.lending.commands.Commands.find_crossing.Goals as goal

pub returns-in_err-gather-clause-cut : goal.returns-in_err-gather-clause-cut
returns-in_err-gather-clause-cut g c =
    let told = err_from_is_err_and c.from_residual.result c.from_residual.ensures.1 in
    cut_so c.from_residual.result c.in_err-gather.field-0.0 (told.1 ∙ ap (λ f. Err f) told.2)
    (λ short honest. length_cut (rest_of (g.D.Disk.state c.args.disk.now).content c.args.self.now) (short honest)) c.in_err-gather.ensures.cut

pub returns-in_err-gather-2-clause-cut : goal.returns-in_err-gather-2-clause-cut
returns-in_err-gather-2-clause-cut g c =
    let told = err_from_is_err_and c.from_residual-in_err-gather-2.result c.from_residual-in_err-gather-2.ensures.1 in
    let file = (g.D.Disk.state c.args.disk.now).content in
    let mid = c.gather.new.self in
    let count = c.number-count.result in
    cut_so c.from_residual-in_err-gather-2.result c.in_err-gather-2.field-0.0 (told.1 ∙ ap (λ f. Err f) told.2)
    (λ short honest.
    let before = c.in_err-gather-2.ensures.honest honest in
    crossing_cut (rest_of file c.args.self.now) (bytes_of mid.joined) (rest_of file mid) count c.number-count.type_inv c.number-count.ensures (c.in_ok-gather.ensures.rest before)
    (subst (λ (s : DiskState). length (rest_of s.content mid) < count) (c.in_ok-gather.ensures.same_state before) (short honest)))
    c.in_err-gather-2.ensures.cut
