use Rattle.std.proofs.Common.{◌≡◌, inr, ◌∙◌, List, [], ◌∷◌, sym, ap, subst, arith}
use Rattle.rr_disk.specs.Calls.{Step, Write, Sync, Account, account, after_steps, StopsWithin}
use Rattle.rr_disk.specs.Disk.{DiskState, after_sync, after_write}
use Rattle.rr_pages.specs.Device.{Shuts, By_write, shutting, StopsShutting}
use Rattle.rr_pages.proofs.DeviceCalls.{err_so, same_account, shutting_open}
use Rattle.rr_pages.proofs.Moments.{ok_so, shut_written, shut_synced}
use Rattle.rr_pages.proofs.Bytes.{first_read}
use Rattle.rr_pages.proofs.device.shut.Goals as goal

pub returns-then-gate-clause-any_moment : goal.returns-then-gate-clause-any_moment
returns-then-gate-clause-any_moment g c = λ honest.
    let then = c.put.ensures.honest honest in
    shut_written c.args.at (c.in_ok-read_at.ensures.same_past then) (c.in_ok-read_at.ensures.same_state then)
    (sym (first_read (g.D.Disk.state c.args.disk.now).content c.args.at c.read_at.new.into (c.in_ok-read_at.ensures.bytes then) (omega arith)) ∙ c.if-gate.true)
    (c.put.ensures.any_moment honest)

pub returns-clause-any_moment : goal.returns-clause-any_moment
returns-clause-any_moment g c = λ honest.
    let then = c.in_ok-sync.ensures.honest honest in
    shut_synced c.args.at (c.in_ok-read_at.ensures.same_past then) (c.in_ok-read_at.ensures.same_state then)
    (g.met.D.Disk.content_may_stay c.args.disk.now (c.in_ok-read_at.ensures.honest then))
    (c.in_ok-sync.ensures.passed honest) (c.in_ok-sync.ensures.settled honest)

pub returns-then-gate-clause-done : goal.returns-then-gate-clause-done
returns-then-gate-clause-done g c =
    let old = g.D.Disk.state c.args.disk.now in
    let new = c.put.new.disk in
    ok_so c.put.result (g.D.Disk.Honest new → g.D.Disk.state new ≡ after_sync (after_write (g.D.Disk.state c.read_at.new.self) c.args.at (0 ∷ []))) (g.D.Disk.Honest new → Shuts old c.args.at (g.D.Disk.state new))
    (λ done honest.
    let then = c.put.ensures.honest honest in
    By_write (sym (first_read old.content c.args.at c.read_at.new.into (c.in_ok-read_at.ensures.bytes then) (omega arith)) ∙ c.if-gate.true)
    (done honest ∙ ap (λ (s : DiskState). after_sync (after_write s c.args.at (0 ∷ []))) (c.in_ok-read_at.ensures.same_state then)))
    c.put.ensures.done

pub returns-then-gate-clause-calls : goal.returns-then-gate-clause-calls
returns-then-gate-clause-calls g c =
    let before = g.D.Disk.state c.args.disk.now in
    let old = account g.D.Disk c.args.disk.now in
    let mid = account g.D.Disk c.read_at.new.self in
    let new = account g.D.Disk c.put.new.disk in
    let steps = Write c.args.at (0 ∷ []) ∷ Sync ∷ [] in
    ok_so c.put.result (g.D.Disk.Honest c.put.new.disk → new ≡ after_steps mid steps) (g.D.Disk.Honest c.put.new.disk → new ≡ after_steps old (shutting before c.args.at))
    (λ calls honest.
    let then = c.put.ensures.honest honest in
    let same = same_account old mid (c.in_ok-read_at.ensures.same_past then) (c.in_ok-read_at.ensures.same_state then) c.in_ok-read_at.ensures.writes c.in_ok-read_at.ensures.syncs in
    let is_open = sym (first_read before.content c.args.at c.read_at.new.into (c.in_ok-read_at.ensures.bytes then) (omega arith)) ∙ c.if-gate.true in
    calls honest ∙ (ap (λ (from : Account). after_steps from steps) same ∙ ap (λ (made : List Step). after_steps old made) (shutting_open before c.args.at is_open)))
    c.put.ensures.calls

pub returns-then-gate-clause-stops : goal.returns-then-gate-clause-stops
returns-then-gate-clause-stops g c =
    let before = g.D.Disk.state c.args.disk.now in
    let old = account g.D.Disk c.args.disk.now in
    let mid = account g.D.Disk c.read_at.new.self in
    let new = account g.D.Disk c.put.new.disk in
    let steps = Write c.args.at (0 ∷ []) ∷ Sync ∷ [] in
    err_so c.put.result (g.D.Disk.Honest c.put.new.disk → StopsWithin mid steps new) (g.D.Disk.Honest c.put.new.disk → StopsShutting old c.args.at new)
    (λ stops honest.
    let then = c.put.ensures.honest honest in
    let same = same_account old mid (c.in_ok-read_at.ensures.same_past then) (c.in_ok-read_at.ensures.same_state then) c.in_ok-read_at.ensures.writes c.in_ok-read_at.ensures.syncs in
    let is_open = sym (first_read before.content c.args.at c.read_at.new.into (c.in_ok-read_at.ensures.bytes then) (omega arith)) ∙ c.if-gate.true in
    inr (subst (λ (made : List Step). StopsWithin old made new) (shutting_open before c.args.at is_open) (subst (λ (from : Account). StopsWithin from steps new) same (stops honest))))
    c.put.ensures.stops
