use Rattle.std.proofs.lemmas.Result.{err_from_is_err_and}
use Rattle.rr_reading.proofs.Told.{root_told}
use Rattle.rr_reading.proofs.root.read_root.Goals as goal

pub returns-in_err-taken-clause-refused : goal.returns-in_err-taken-clause-refused
returns-in_err-taken-clause-refused g c =
    let p = err_from_is_err_and c.from_residual.result c.from_residual.ensures.1 in
    rw (p.1, p.2) (λ honest. root_told _ _ (c.in_err-taken.ensures.chosen honest))
