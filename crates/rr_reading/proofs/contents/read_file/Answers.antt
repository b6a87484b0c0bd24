use Rattle.std.proofs.Common.{ℕ, List, ap}
use Rattle.std.proofs.lemmas.Result.{err_from_is_err_and}
use Rattle.rr_disk.specs.Disk.{DiskState}
use Rattle.rr_reading.proofs.Told.{no_verdict_told, refused_later}
use Rattle.rr_reading.proofs.contents.read_file.Goals as goal

content : DiskState → List ℕ
content state = state.content

pub returns-in_err-found-clause-read : goal.returns-in_err-found-clause-read
unfolding content
returns-in_err-found-clause-read g c = λ honest.
    let p = err_from_is_err_and c.from_residual-in_err-found.result c.from_residual-in_err-found.ensures.1 in
    let first = c.in_err-found.ensures.honest honest in
    let taken = c.in_ok-taken.taken in
    rw (p.1, p.2) (refused_later (g.D.Disk.state c.args.disk.now).content (g.D.Disk.state c.read_root.new.disk).content taken.side taken.root _
    (ap content (c.in_ok-taken.ensures.same_state first)) (c.in_ok-taken.ensures.taken first) (c.in_err-found.ensures.refused honest))

pub returns-in_err-records-clause-read : goal.returns-in_err-records-clause-read
returns-in_err-records-clause-read g c = λ honest.
    let p = err_from_is_err_and c.from_residual-in_err-records.result c.from_residual-in_err-records.ensures.1 in
    let taken = c.in_ok-taken.taken in
    let first = c.in_ok-found.ensures.honest (c.in_err-records.ensures.honest honest) in
    rw (p.1, p.2) (no_verdict_told (g.D.Disk.state c.args.disk.now).content _ c.in_err-records.ensures.only (taken.side, taken.root, c.in_ok-taken.ensures.taken first))
