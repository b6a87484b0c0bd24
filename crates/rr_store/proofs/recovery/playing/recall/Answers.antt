use Rattle.std.proofs.Common.{arith}
use Rattle.std.proofs.lemmas.Result.{err_from_is_err_and}
use Rattle.rr_store.proofs.RecoveryLemmas.PlayingLemmas.{breaks_so}
use Rattle.rr_store.proofs.RecoveryLemmas.ReadingLemmas.{failed, valued}
use Rattle.rr_store.proofs.recovery.playing.recall.Goals as goal

pub returns-in_err-keep_first-clause-refused : goal.returns-in_err-keep_first-clause-refused
returns-in_err-keep_first-clause-refused g c =
    let p = err_from_is_err_and c.from_residual.result c.from_residual.ensures.1 in
    rw (p.1, p.2)
    (breaks_so _ c.in_err-keep_first.ensures.refused (λ none honest count few commands holds within. none honest count few commands holds (omega (arith, within, c.played.ensures.shown))))

pub returns-in_err-keep_first-clause-only_reads : goal.returns-in_err-keep_first-clause-only_reads
returns-in_err-keep_first-clause-only_reads g c =
    let p = err_from_is_err_and c.from_residual.result c.from_residual.ensures.1 in
    rw (p.1, p.2) (failed c.in_err-keep_first.ensures.only_reads)

pub returns-clause-only_reads : goal.returns-clause-only_reads
returns-clause-only_reads g c = valued c.in_ok-keep_first.ensures.only_reads
