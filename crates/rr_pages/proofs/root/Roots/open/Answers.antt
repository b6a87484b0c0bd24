use Rattle.std.proofs.Common.{[], ◌∷◌, refl}
use Rattle.rr_disk.specs.Calls.{account}
use Rattle.rr_disk.proofs.CallLemmas.{on_err}
use Rattle.rr_pages.proofs.DeviceCalls.{stops_moved}
use Rattle.rr_pages.proofs.Moments.{moved}
use Rattle.rr_pages.proofs.root.Roots.open.Goals as goal

pub returns-clause-any_moment : goal.returns-clause-any_moment
returns-clause-any_moment g c = λ honest. moved _ _ _ _ c.stale_gate.ensures refl (c.in_ok-put.ensures.any_moment honest)

pub returns-in_err-put-clause-any_moment : goal.returns-in_err-put-clause-any_moment
returns-in_err-put-clause-any_moment g c = λ honest. moved _ _ _ _ c.stale_gate.ensures refl (c.in_err-put.ensures.any_moment honest)

pub returns-in_err-put-clause-stops : goal.returns-in_err-put-clause-stops
returns-in_err-put-clause-stops g c =
    on_err c.from_residual.result
    (λ honest. stops_moved (account g.D.Disk c.args.disk.now) (account g.D.Disk c.put.new.disk) _ _ (165 ∷ []) (165 ∷ []) c.stale_gate.ensures refl (c.in_err-put.ensures.stops honest))
