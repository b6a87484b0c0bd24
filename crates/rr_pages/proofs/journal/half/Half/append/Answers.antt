use Rattle.std.proofs.Common.{◌≡◌, ◌⊎◌, ℕ, ◌+◌, List, [], ◌∷◌, ◌++◌, length, take, sym, ◌∙◌, ap, subst, arith}
use Rattle.rr_disk.specs.Calls.{account}
use Rattle.rr_disk.specs.Disk.{DiskState, FailedWrite, after_write, after_sync}
use Rattle.rr_disk.proofs.MomentLemmas.{weaker}
use Rattle.rr_pages.specs.declared.journal.reading.RunEnd.TheVariants.{Closed}
use Rattle.rr_pages.specs.Journal.Layout.{spelling_behind_gate}
use Rattle.rr_pages.specs.Journal.Run.{Run}
use Rattle.rr_pages.specs.Journal.Stops.{next_gate}
use Rattle.rr_pages.proofs.JournalLemmas.Appends.{whole_written}
use Rattle.rr_pages.proofs.JournalLemmas.DeviceLemmas.{on_device, put_failed, stops_in_first, stops_in_second, appended}
use Rattle.rr_pages.proofs.JournalLemmas.Lists.{behind_first, first_alone}
use Rattle.rr_pages.proofs.JournalLemmas.Moments.{first_fails, second_fails, second_done, before_or_after, keeps_ready, kept_after}
use Rattle.rr_pages.proofs.JournalLemmas.Spelling.{length_behind}
use Rattle.rr_pages.proofs.journal.half.Half.append.Goals as goal

pub returns-in_err-put-clause-any_moment : goal.returns-in_err-put-clause-any_moment
returns-in_err-put-clause-any_moment g c = λ honest ready.
    let half = c.args.self.now in
    let before = g.D.Disk.state c.args.disk.now in
    let sent = behind_first c.spelled-whole.result.now (spelling_behind_gate c.args.number c.args.bytes.now) 165 c.spelled-whole.ensures in
    let past = g.D.Disk.past c.args.disk.now in
    let failed : FailedWrite (next_gate half + 1) (length (spelling_behind_gate c.args.number c.args.bytes.now)) past before (g.D.Disk.past c.put.new.disk) (g.D.Disk.state c.put.new.disk) =
    rw (sym sent, sym c.next_gate-gate.ensures.place) (put_failed (account g.D.Disk c.args.disk.now) (account g.D.Disk c.put.new.disk) _ _ (c.in_err-put.ensures.stops honest)) in
    first_fails half before past c.args.number c.args.bytes.now ready failed

pub returns-in_err-put-2-clause-any_moment : goal.returns-in_err-put-2-clause-any_moment
returns-in_err-put-2-clause-any_moment g c = λ honest ready.
    let half = c.args.self.now in
    let before = g.D.Disk.state c.args.disk.now in
    let sent = behind_first c.spelled-whole.result.now (spelling_behind_gate c.args.number c.args.bytes.now) 165 c.spelled-whole.ensures in
    let past = g.D.Disk.past c.args.disk.now in
    let staged = after_write before (next_gate half + 1) (spelling_behind_gate c.args.number c.args.bytes.now) in
    let then = c.in_err-put-2.ensures.honest honest in
    let stays = g.met.D.Disk.content_may_stay c.args.disk.now (c.in_ok-put.ensures.honest then) in
    let passed : g.D.Disk.past c.put.new.disk ≡ staged ∷ before ∷ past = rw (sym sent, sym c.next_gate-gate.ensures.place) (c.in_ok-put.ensures.passed then) in
    let is : g.D.Disk.state c.put.new.disk ≡ after_sync staged = rw (sym sent, sym c.next_gate-gate.ensures.place) (c.in_ok-put.ensures.done then) in
    let opened = first_alone c.spelled-whole.result.now (spelling_behind_gate c.args.number c.args.bytes.now) 165 c.spelled-whole.ensures in
    let one : length (take 1 c.spelled-whole.result.now) ≡ 1 = ap (λ (sent : List ℕ). length sent) opened in
    let failed : FailedWrite (next_gate half) 1 (g.D.Disk.past c.put.new.disk) (g.D.Disk.state c.put.new.disk) (g.D.Disk.past c.put-2.new.disk) (g.D.Disk.state c.put-2.new.disk) =
    rw (sym one, sym c.next_gate-gate.ensures.place) (put_failed (account g.D.Disk c.put.new.disk) (account g.D.Disk c.put-2.new.disk) _ _ (c.in_err-put-2.ensures.stops honest)) in
    second_fails half before past c.args.number c.args.bytes.now ready stays passed is failed

pub returns-clause-any_moment : goal.returns-clause-any_moment
returns-clause-any_moment g c = λ honest ready.
    let half = c.args.self.now in
    let before = g.D.Disk.state c.args.disk.now in
    let sent = behind_first c.spelled-whole.result.now (spelling_behind_gate c.args.number c.args.bytes.now) 165 c.spelled-whole.ensures in
    let past = g.D.Disk.past c.args.disk.now in
    let staged = after_write before (next_gate half + 1) (spelling_behind_gate c.args.number c.args.bytes.now) in
    let then = c.in_ok-put-2.ensures.honest honest in
    let stays = g.met.D.Disk.content_may_stay c.args.disk.now (c.in_ok-put.ensures.honest then) in
    let passed : g.D.Disk.past c.put.new.disk ≡ staged ∷ before ∷ past = rw (sym sent, sym c.next_gate-gate.ensures.place) (c.in_ok-put.ensures.passed then) in
    let is : g.D.Disk.state c.put.new.disk ≡ after_sync staged = rw (sym sent, sym c.next_gate-gate.ensures.place) (c.in_ok-put.ensures.done then) in
    let opened = first_alone c.spelled-whole.result.now (spelling_behind_gate c.args.number c.args.bytes.now) 165 c.spelled-whole.ensures in
    let passed_then : g.D.Disk.past c.put-2.new.disk ≡ after_write (g.D.Disk.state c.put.new.disk) (next_gate half) (165 ∷ []) ∷ g.D.Disk.state c.put.new.disk ∷ g.D.Disk.past c.put.new.disk =
    subst (λ (at : ℕ). g.D.Disk.past c.put-2.new.disk ≡ after_write (g.D.Disk.state c.put.new.disk) at (165 ∷ []) ∷ g.D.Disk.state c.put.new.disk ∷ g.D.Disk.past c.put.new.disk) c.next_gate-gate.ensures.place
    (subst (λ (sent : List ℕ). g.D.Disk.past c.put-2.new.disk ≡ after_write (g.D.Disk.state c.put.new.disk) c.next_gate-gate.result sent ∷ g.D.Disk.state c.put.new.disk ∷ g.D.Disk.past c.put.new.disk) opened (c.in_ok-put-2.ensures.passed honest)) in
    let is_then : g.D.Disk.state c.put-2.new.disk ≡ after_sync (after_write (g.D.Disk.state c.put.new.disk) (next_gate half) (165 ∷ [])) =
    subst (λ (at : ℕ). g.D.Disk.state c.put-2.new.disk ≡ after_sync (after_write (g.D.Disk.state c.put.new.disk) at (165 ∷ []))) c.next_gate-gate.ensures.place
    (subst (λ (sent : List ℕ). g.D.Disk.state c.put-2.new.disk ≡ after_sync (after_write (g.D.Disk.state c.put.new.disk) c.next_gate-gate.result sent)) opened (c.in_ok-put-2.ensures.done honest)) in
    second_done half before past c.args.number c.args.bytes.now ready stays passed is passed_then is_then

pub returns-clause-written : goal.returns-clause-written
returns-clause-written g c = λ honest.
    let half = c.args.self.now in
    let before = g.D.Disk.state c.args.disk.now in
    let sent = behind_first c.spelled-whole.result.now (spelling_behind_gate c.args.number c.args.bytes.now) 165 c.spelled-whole.ensures in
    let staged = after_write before (next_gate half + 1) (spelling_behind_gate c.args.number c.args.bytes.now) in
    let then = c.in_ok-put-2.ensures.honest honest in
    let is : g.D.Disk.state c.put.new.disk ≡ after_sync staged = rw (sym sent, sym c.next_gate-gate.ensures.place) (c.in_ok-put.ensures.done then) in
    let opened = first_alone c.spelled-whole.result.now (spelling_behind_gate c.args.number c.args.bytes.now) 165 c.spelled-whole.ensures in
    let is_then : g.D.Disk.state c.put-2.new.disk ≡ after_sync (after_write (g.D.Disk.state c.put.new.disk) (next_gate half) (165 ∷ [])) =
    subst (λ (at : ℕ). g.D.Disk.state c.put-2.new.disk ≡ after_sync (after_write (g.D.Disk.state c.put.new.disk) at (165 ∷ []))) c.next_gate-gate.ensures.place
    (subst (λ (sent : List ℕ). g.D.Disk.state c.put-2.new.disk ≡ after_sync (after_write (g.D.Disk.state c.put.new.disk) c.next_gate-gate.result sent)) opened (c.in_ok-put-2.ensures.done honest)) in
    is_then ∙ (ap (λ (state : DiskState). after_sync (after_write state (next_gate half) (165 ∷ []))) is ∙ whole_written before half c.args.number c.args.bytes.now)

pub returns-in_err-put-clause-before_or_after : goal.returns-in_err-put-clause-before_or_after
returns-in_err-put-clause-before_or_after g c = λ honest first lines keeps numbered.
    let half = c.args.self.now in
    let before = g.D.Disk.state c.args.disk.now in
    let room = c.has_room.ensures.0 c.if-not-has_room.false in
    weaker (returns-in_err-put-clause-any_moment g c honest (keeps_ready half before first (length c.args.bytes.now) lines room keeps))
    (λ image. Run image half.index 0 first lines Closed ⊎ Run image half.index 0 first (lines ++ c.args.bytes.now ∷ []) Closed)
    (before_or_after half c.args.number first lines c.args.bytes.now numbered keeps.next before keeps room c.ranges.number.fits)

pub returns-in_err-put-2-clause-before_or_after : goal.returns-in_err-put-2-clause-before_or_after
returns-in_err-put-2-clause-before_or_after g c = λ honest first lines keeps numbered.
    let half = c.args.self.now in
    let before = g.D.Disk.state c.args.disk.now in
    let room = c.has_room.ensures.0 c.if-not-has_room.false in
    weaker (returns-in_err-put-2-clause-any_moment g c honest (keeps_ready half before first (length c.args.bytes.now) lines room keeps))
    (λ image. Run image half.index 0 first lines Closed ⊎ Run image half.index 0 first (lines ++ c.args.bytes.now ∷ []) Closed)
    (before_or_after half c.args.number first lines c.args.bytes.now numbered keeps.next before keeps room c.ranges.number.fits)

pub returns-clause-before_or_after : goal.returns-clause-before_or_after
returns-clause-before_or_after g c = λ honest first lines keeps numbered.
    let half = c.args.self.now in
    let before = g.D.Disk.state c.args.disk.now in
    let room = c.has_room.ensures.0 c.if-not-has_room.false in
    weaker (returns-clause-any_moment g c honest (keeps_ready half before first (length c.args.bytes.now) lines room keeps))
    (λ image. Run image half.index 0 first lines Closed ⊎ Run image half.index 0 first (lines ++ c.args.bytes.now ∷ []) Closed)
    (before_or_after half c.args.number first lines c.args.bytes.now numbered keeps.next before keeps room c.ranges.number.fits)

pub returns-clause-acknowledged : goal.returns-clause-acknowledged
returns-clause-acknowledged g c = λ honest first lines keeps numbered.
    let half = c.args.self.now in
    let before = g.D.Disk.state c.args.disk.now in
    let room = c.has_room.ensures.0 c.if-not-has_room.false in
    let stays = g.met.D.Disk.content_may_stay c.args.disk.now (c.in_ok-put.ensures.honest (c.in_ok-put-2.ensures.honest honest)) in
    kept_after half c.args.number first lines c.args.bytes.now numbered keeps.next before (g.D.Disk.state c.put-2.new.disk) c.slots_for.result keeps room c.ranges.number.fits stays c.slots_for.ensures (returns-clause-written g c honest)

-- the record ends before page 1,092
pub returns-in_err-put-clause-device : goal.returns-in_err-put-clause-device
returns-in_err-put-clause-device g c =
    let room = c.has_room.ensures.0 c.if-not-has_room.false in
    let sent = behind_first c.spelled-whole.result.now (spelling_behind_gate c.args.number c.args.bytes.now) 165 c.spelled-whole.ensures in
    on_device c.from_residual.result
    (λ works. absurd (omega (arith, c.in_err-put.ensures.refused works, ap length sent, length_behind c.args.number c.args.bytes.now, room.not_long, c.next_gate-gate.ensures.small)))

pub returns-in_err-put-clause-stops : goal.returns-in_err-put-clause-stops
returns-in_err-put-clause-stops g c =
    let sent = behind_first c.spelled-whole.result.now (spelling_behind_gate c.args.number c.args.bytes.now) 165 c.spelled-whole.ensures in
    let opened = first_alone c.spelled-whole.result.now (spelling_behind_gate c.args.number c.args.bytes.now) 165 c.spelled-whole.ensures in
    on_device c.from_residual.result
    (λ honest.
    stops_in_first c.args.self.now c.args.number c.args.bytes.now (account g.D.Disk c.args.disk.now) _ _ _ c.next_gate-gate.ensures.place sent opened
    (account g.D.Disk c.put.new.disk) (c.in_err-put.ensures.stops honest))

pub returns-in_err-put-2-clause-stops : goal.returns-in_err-put-2-clause-stops
returns-in_err-put-2-clause-stops g c =
    let sent = behind_first c.spelled-whole.result.now (spelling_behind_gate c.args.number c.args.bytes.now) 165 c.spelled-whole.ensures in
    let opened = first_alone c.spelled-whole.result.now (spelling_behind_gate c.args.number c.args.bytes.now) 165 c.spelled-whole.ensures in
    on_device c.from_residual-in_err-put-2.result
    (λ honest.
    stops_in_second c.args.self.now c.args.number c.args.bytes.now (account g.D.Disk c.args.disk.now) _ _ _ c.next_gate-gate.ensures.place sent opened
    (account g.D.Disk c.put.new.disk) (c.in_ok-put.ensures.calls (c.in_err-put-2.ensures.honest honest)) (account g.D.Disk c.put-2.new.disk) (c.in_err-put-2.ensures.stops honest))

pub returns-clause-calls : goal.returns-clause-calls
returns-clause-calls g c = λ honest.
    let sent = behind_first c.spelled-whole.result.now (spelling_behind_gate c.args.number c.args.bytes.now) 165 c.spelled-whole.ensures in
    let opened = first_alone c.spelled-whole.result.now (spelling_behind_gate c.args.number c.args.bytes.now) 165 c.spelled-whole.ensures in
    appended c.args.self.now c.args.number c.args.bytes.now (account g.D.Disk c.args.disk.now) _ _ _ c.next_gate-gate.ensures.place sent opened
    (account g.D.Disk c.put.new.disk) (c.in_ok-put.ensures.calls (c.in_ok-put-2.ensures.honest honest)) (account g.D.Disk c.put-2.new.disk) (c.in_ok-put-2.ensures.calls honest)

pub returns-in_err-put-2-clause-honest : goal.returns-in_err-put-2-clause-honest
returns-in_err-put-2-clause-honest g c = λ honest. c.in_ok-put.ensures.honest (c.in_err-put-2.ensures.honest honest)
