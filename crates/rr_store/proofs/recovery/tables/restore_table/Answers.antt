use Rattle.std.proofs.Common.{All, subst, sym}
use Rattle.std.proofs.lemmas.Result.{err_from_is_err_and}
use Rattle.rr_game.specs.History.Tables.{IsPlayed, kept_in}
use Rattle.rr_kit.specs.declared.kit.Kit.{Kit}
use Rattle.rr_tables.specs.Records.Played.{IsPlayedTable}
use Rattle.rr_store.specs.declared.recovery.fault.Fault.{Fault}
use Rattle.rr_store.specs.Recovery.Fault.{IsOfDevice}
use Rattle.rr_store.specs.Recovery.Shown.{ShowsPlayOf, shown_of}
use Rattle.rr_store.specs.Replayed.{PlaysTable, counts_shown}
use Rattle.rr_store.proofs.RecoveryLemmas.PlayingLemmas.{breaks_so}
use Rattle.rr_store.proofs.RecoveryLemmas.ReadingLemmas.{failed, refused, valued}
use Rattle.rr_store.proofs.recovery.tables.restore_table.Goals as goal

pub returns-clause-put : goal.returns-clause-put
returns-clause-put g c =
    let table = c.in_ok-value.field-0.value in
    let shown = shown_of c.args.index c.args.snapshots in
    let played =
    subst (λ (kit : Kit). All (ShowsPlayOf kit (kept_in table).commands) shown → IsPlayed kit table × IsPlayedTable kit (kept_in table)) c.kit.ensures c.in_ok-value.ensures.played in
    let plays =
    subst (λ (kit : Kit). g.D.Disk.Honest c.restore_whole.new.disk → All (ShowsPlayOf kit (kept_in table).commands) shown → PlaysTable kit (kept_in table) (counts_shown shown) c.in_ok-value.field-0.plays) c.kit.ensures c.in_ok-value.ensures.plays in (
      kept_in table,
      record { last = c.in_ok-put_table.ensures.last },
      c.in_ok-value.ensures.told,
      λ shows. ((played shows).1, λ old. c.in_ok-put_table.ensures.played old (played shows).0),
      plays,
    )

pub returns-in_err-value-clause-only_reads : goal.returns-in_err-value-clause-only_reads
returns-in_err-value-clause-only_reads g c =
    let p = err_from_is_err_and c.from_residual.result c.from_residual.ensures.1 in
    rw (p.1, p.2) (failed c.in_err-value.ensures.only_reads)

pub returns-in_err-put_table-clause-only_reads : goal.returns-in_err-put_table-clause-only_reads
returns-in_err-put_table-clause-only_reads g c =
    let p = err_from_is_err_and c.from_residual-in_err-put_table.result c.from_residual-in_err-put_table.ensures.1 in
    rw (p.1, p.2) (refused _ (subst (λ (f : Fault). IsOfDevice f) c.in_err-put_table.ensures.memory) c.in_ok-value.ensures.only_reads)

pub returns-clause-only_reads : goal.returns-clause-only_reads
returns-clause-only_reads g c = valued c.in_ok-value.ensures.only_reads

pub returns-in_err-value-clause-refused : goal.returns-in_err-value-clause-refused
returns-in_err-value-clause-refused g c =
    let p = err_from_is_err_and c.from_residual.result c.from_residual.ensures.1 in
    let shown = shown_of c.args.index c.args.snapshots in
    rw (p.1, p.2)
    (breaks_so _ c.in_err-value.ensures.refused (λ none honest free few state tells shows played.
    none honest few state tells (subst (λ (kit : Kit). All (ShowsPlayOf kit state.commands) shown) (sym c.kit.ensures) shows) (subst (λ (kit : Kit). IsPlayedTable kit state) (sym c.kit.ensures) played)))
