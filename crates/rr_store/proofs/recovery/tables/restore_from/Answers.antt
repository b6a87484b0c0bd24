use Rattle.std.proofs.Common.{◌≡◌, ◌<◌, ◌≤◌, ◌^◌, All, List, refl, sym, ap, subst, ◌∙◌, arith}
use Rattle.rr_code.specs.declared.command.Command.{Command}
use Rattle.std.proofs.lemmas.Result.{err_from_is_err_and}
use Rattle.rr_game.specs.History.Tables.{kept_in, turns_in}
use Rattle.rr_reading.specs.Lending.Commands.{bytes_at}
use Rattle.rr_store.specs.Recovery.Shown.{ShowsPlayOf, shown_of}
use Rattle.rr_store.specs.Replayed.{counts_shown, with_due}
use Rattle.rr_store.proofs.RecoveryLemmas.PlayingLemmas.{breaks_so}
use Rattle.rr_store.proofs.RecoveryLemmas.PlaysLemmas.{resumed_named}
use Rattle.rr_store.proofs.RecoveryLemmas.RestoringLemmas.{above_turns, is_writable, resumed}
use Rattle.rr_store.proofs.RecoveryLemmas.ShownLemmas.{show_nothing}
use Rattle.rr_store.proofs.RecoveryLemmas.ReadingLemmas.{failed, refused, valued}
use Rattle.rr_store.proofs.recovery.tables.restore_from.Goals as goal

pub returns-in_err-value-clause-refused : goal.returns-in_err-value-clause-refused
returns-in_err-value-clause-refused g c =
    let p = err_from_is_err_and c.from_residual.result c.from_residual.ensures.1 in
    rw (p.1, p.2)
    (breaks_so _ c.in_err-value.ensures.refused (λ none honest few state tells shown played. none honest few state.commands tells.kept shown played.lawful))

pub returns-clause-played : goal.returns-clause-played
returns-clause-played g c =
    let kit = c.args.kit.now in
    let shown = shown_of c.args.index c.args.snapshots in
    let below : c.from-floor.result ≤ c.turns.result = omega (arith, c.if-floor-turns.false) in
    resumed kit shown c.in_ok-value.field-0.value c.resume.new.self c.from-floor.result c.turns.result c.in_ok-value.ensures.played (c.resume.ensures.played kit) c.resume.ensures.commands c.resume.ensures.floor
    (c.turns.ensures.ended kit) below

pub returns-clause-named : goal.returns-clause-named
returns-clause-named g c = λ none.
    let kit = c.args.kit.now in
    let table = c.in_ok-value.field-0.value in
    let floored = c.in_ok-value.ensures.floor in
    let from : table.floor ≤ c.from-floor.result = omega (arith, floored) in
    let below : c.from-floor.result ≤ turns_in table = omega (arith, c.if-floor-turns.false, c.turns.ensures.value) in
    c.resume.ensures.named kit (c.in_ok-value.ensures.played (show_nothing kit (kept_in table).commands (shown_of c.args.index c.args.snapshots) none)) (c.in_ok-value.ensures.named none) from below

pub returns-clause-writable : goal.returns-clause-writable
returns-clause-writable g c =
    let below : c.from-floor.result < 2 ^ 32 = omega (arith, c.from-floor.ensures) in
    is_writable c.from-floor.result (kept_in c.resume.new.self) c.resume.ensures.floor below

pub returns-then-floor-turns-clause-refused : goal.returns-then-floor-turns-clause-refused
returns-then-floor-turns-clause-refused g c =
    let floor_is : c.from-floor.result ≡ c.args.entry.now.floor = omega (arith, c.from-floor.ensures) in
    let above : c.turns.result < c.from-floor.result = omega (arith, c.if-floor-turns.true) in (
      refl,
      λ honest few.
          above_turns c.args.kit.now (shown_of c.args.index c.args.snapshots) c.args.entry.now (bytes_at (g.D.Disk.state c.args.disk.now).content c.args.chains.now c.args.index) c.in_ok-value.field-0.value c.from-floor.result
          c.turns.result (c.in_ok-value.ensures.restored honest) c.in_ok-value.ensures.played floor_is (c.turns.ensures.ended c.args.kit.now) above,
    )

pub returns-clause-shown : goal.returns-clause-shown
returns-clause-shown g c = λ shows.
    let kit = c.args.kit.now in
    let old = c.in_ok-value.field-0.value in
    let shown = shown_of c.args.index c.args.snapshots in
    let old_played = c.in_ok-value.ensures.played (subst (λ (cs : List Command). All (ShowsPlayOf kit cs) shown) c.resume.ensures.commands shows) in
    let below : c.from-floor.result ≤ turns_in old = omega (arith, c.if-floor-turns.false, c.turns.ensures.value) in
    let due = c.in_ok-value.ensures.shown ∙ ap (with_due (counts_shown shown)) (sym c.in_ok-value.ensures.counted) in
    resumed_named kit old c.resume.new.self c.from-floor.result (counts_shown shown) old_played (c.resume.ensures.played kit old_played) c.resume.ensures.commands c.resume.ensures.floor
    c.resume.ensures.snapshots below due

pub returns-in_err-value-clause-only_reads : goal.returns-in_err-value-clause-only_reads
returns-in_err-value-clause-only_reads g c =
    let p = err_from_is_err_and c.from_residual.result c.from_residual.ensures.1 in
    rw (p.1, p.2) (failed c.in_err-value.ensures.only_reads)

pub returns-then-floor-turns-clause-only_reads : goal.returns-then-floor-turns-clause-only_reads
returns-then-floor-turns-clause-only_reads g c = refused _ (λ never. never) c.in_ok-value.ensures.only_reads

pub returns-clause-only_reads : goal.returns-clause-only_reads
returns-clause-only_reads g c = valued c.in_ok-value.ensures.only_reads
