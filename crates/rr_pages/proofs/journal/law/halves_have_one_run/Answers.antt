use Rattle.std.proofs.Common.{arith}
use Rattle.rr_pages.proofs.JournalLemmas.OneRun.{run_found}
use Rattle.rr_pages.proofs.JournalLemmas.Runs.{one_run}
use Rattle.rr_pages.proofs.journal.law.halves_have_one_run.Goals as goal

pub returns-clause-some : goal.returns-clause-some
returns-clause-some c = λ file half first. run_found 255 file half 0 first (omega arith)

pub returns-clause-only : goal.returns-clause-only
returns-clause-only c = λ file half first lines others end other. one_run file half 0 first lines others end other
