use Rattle.std.proofs.Common.{ℕ, ◌+◌, length, ap, ◌∙◌}
use Rattle.rr_disk.specs.Calls.{account}
use Rattle.rr_disk.proofs.CallLemmas.{on_err}
use Rattle.rr_pages.proofs.DeviceCalls.{stops_moved}
use Rattle.rr_pages.proofs.Moments.{moved}
use Rattle.rr_pages.proofs.RootSpelling.{length-root}
use Rattle.rr_pages.proofs.root.Roots.fill.Goals as goal

pub returns-in_err-put-clause-any_moment : goal.returns-in_err-put-clause-any_moment
returns-in_err-put-clause-any_moment g c = λ honest.
    moved _ _ _ _ (ap (λ (k : ℕ). k + 1) c.stale_gate.ensures) (ap length c.spelled-bytes.ensures ∙ length-root c.args.root.now) (c.in_err-put.ensures.any_moment honest)

pub returns-clause-any_moment : goal.returns-clause-any_moment
returns-clause-any_moment g c = λ honest.
    moved _ _ _ _ (ap (λ (k : ℕ). k + 1) c.stale_gate.ensures) (ap length c.spelled-bytes.ensures ∙ length-root c.args.root.now) (c.in_ok-put.ensures.any_moment honest)

pub returns-in_err-put-clause-stops : goal.returns-in_err-put-clause-stops
returns-in_err-put-clause-stops g c =
    on_err c.from_residual.result
    (λ honest.
    stops_moved (account g.D.Disk c.args.disk.now) (account g.D.Disk c.put.new.disk) _ _ _ _ (ap (λ (k : ℕ). k + 1) c.stale_gate.ensures) c.spelled-bytes.ensures (c.in_err-put.ensures.stops honest))
