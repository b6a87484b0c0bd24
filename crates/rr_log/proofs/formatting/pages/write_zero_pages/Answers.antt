use Rattle.std.proofs.Common.{◌≡◌, ◌∙◌, ℕ, List, [], ◌∷◌, drop, ap, subst}
use Rattle.rr_disk.specs.Calls.{Write, account, after_steps, StopsWithin}
use Rattle.rr_disk.specs.Disk.{counted_by}
use Rattle.rr_disk.proofs.CallLemmas.{on_err, stops_before}
use Rattle.rr_log.specs.Formatting.Calls.{zero_page, zeros_from}
use Rattle.rr_log.proofs.FormattingLemmas.Calls.{all_then, behind_gate, counted_both, counted_once, stops_then}
use Rattle.rr_log.proofs.formatting.pages.write_zero_pages.Goals as goal

pub returns-in_err-write-clause-stops : goal.returns-in_err-write-clause-stops
returns-in_err-write-clause-stops g c =
    let old = account g.D.Disk c.args.disk.now in
    let new = account g.D.Disk c.write.new.disk in
    on_err c.from_residual.result
    (λ honest.
    stops_before old new (Write 4097 (drop 1 zero_page) ∷ []) (zeros_from 2 512)
    (subst (λ (sent : List ℕ). StopsWithin old (Write 4097 sent ∷ []) new) (behind_gate c.args.zeros.now c.requires.zeros) (c.in_err-write.ensures.stops honest)))

pub returns-in_err-write_journal-clause-stops : goal.returns-in_err-write_journal-clause-stops
returns-in_err-write_journal-clause-stops g c =
    let old = account g.D.Disk c.args.disk.now in
    let mid = account g.D.Disk c.write.new.disk in
    on_err c.from_residual-in_err-write_journal.result
    (λ honest.
    let made = subst (λ (sent : List ℕ). mid ≡ after_steps old (Write 4097 sent ∷ [])) (behind_gate c.args.zeros.now c.requires.zeros) (c.in_ok-write.ensures.calls (c.in_err-write_journal.ensures.honest honest)) in
    stops_then old mid (account g.D.Disk c.write_journal.new.disk) (Write 4097 (drop 1 zero_page) ∷ []) (zeros_from 2 512) made (c.in_err-write_journal.ensures.stops honest))

pub returns-clause-calls : goal.returns-clause-calls
returns-clause-calls g c = λ honest.
    let old = account g.D.Disk c.args.disk.now in
    let mid = account g.D.Disk c.write.new.disk in
    let made = subst (λ (sent : List ℕ). mid ≡ after_steps old (Write 4097 sent ∷ [])) (behind_gate c.args.zeros.now c.requires.zeros) (c.in_ok-write.ensures.calls (c.in_ok-write_journal.ensures.honest honest)) in
    all_then old mid (account g.D.Disk c.write_journal.new.disk) (Write 4097 (drop 1 zero_page) ∷ []) (zeros_from 2 512) made (c.in_ok-write_journal.ensures.calls honest)

pub returns-clause-all_writes : goal.returns-clause-all_writes
returns-clause-all_writes g c =
    let old = g.D.Disk.write_count c.args.disk.now in
    c.in_ok-write_journal.ensures.all_writes
    ∙ (ap (λ (n : ℕ). counted_by 512 n) (c.write.ensures.writes ∙ counted_once old) ∙ counted_both 512 1 old)
