use Rattle.std.proofs.Common.{inl, [], ◌∷◌, subst}
use Rattle.rr_disk.specs.Calls.{Write, Sync, Account, account, StopsWithin}
use Rattle.rr_disk.proofs.CallLemmas.{on_err, stops_before, stops_behind}
use Rattle.rr_disk.proofs.MomentLemmas.{stays}
use Rattle.rr_disk.proofs.WriteLemmas.{put_done}
use Rattle.rr_disk.proofs.device.put.Goals as goal

pub returns-in_err-sync-clause-any_moment : goal.returns-in_err-sync-clause-any_moment
returns-in_err-sync-clause-any_moment g c = λ honest.
    let then = c.in_err-sync.ensures.honest honest in
    stays (c.in_ok-write.ensures.any_moment then) (c.in_err-sync.ensures.failed_past honest) (c.in_err-sync.ensures.failed_state honest)

pub returns-clause-any_moment : goal.returns-clause-any_moment
returns-clause-any_moment g c = λ honest.
    let then = c.in_ok-sync.ensures.honest honest in
    let may = g.met.D.Disk.content_may_stay c.args.disk.now (c.in_ok-write.ensures.honest then) in
    put_done (g.D.Disk.past c.args.disk.now) (g.D.Disk.state c.args.disk.now) c.args.at c.args.bytes.now
    (c.in_ok-write.ensures.any_moment then) (c.in_ok-write.ensures.done then) may (c.in_ok-sync.ensures.passed honest) (c.in_ok-sync.ensures.settled honest)

pub returns-in_err-write-clause-stops : goal.returns-in_err-write-clause-stops
returns-in_err-write-clause-stops g c =
    on_err c.from_residual.result
    (λ honest. stops_before (account g.D.Disk c.args.disk.now) (account g.D.Disk c.write.new.disk) (Write c.args.at c.args.bytes.now ∷ []) (Sync ∷ []) (c.in_err-write.ensures.stops honest))

pub returns-in_err-sync-clause-stops : goal.returns-in_err-sync-clause-stops
returns-in_err-sync-clause-stops g c =
    on_err c.from_residual-in_err-sync.result
    (λ honest.
    let then = c.in_err-sync.ensures.honest honest in
    let made = c.in_ok-write.ensures.calls then in
    stops_behind (account g.D.Disk c.args.disk.now) (account g.D.Disk c.sync.new.self) (Write c.args.at c.args.bytes.now ∷ []) (Sync ∷ [])
    (subst (λ (mid : Account). StopsWithin mid (Sync ∷ []) (account g.D.Disk c.sync.new.self)) made
    (inl (c.in_err-sync.ensures.failed_past honest, c.in_err-sync.ensures.failed_state honest, c.in_err-sync.ensures.writes, c.in_err-sync.ensures.syncs))))
