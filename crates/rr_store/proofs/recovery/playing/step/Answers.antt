use Rattle.std.proofs.Common.{◌≡◌, ◌+◌, [], ◌∷◌, length, ap, ◌∙◌, length-append}
use Rattle.std.proofs.lemmas.Result.{err_from_is_err_and}
use Rattle.rr_code.specs.declared.command.Command.{Command}
use Rattle.rr_turns.specs.declared.request.Request.TheVariants.{Play}
use Rattle.rr_turns.specs.Kept.{Kept}
use Rattle.rr_turns.proofs.JudgementLemmas.{lawful-wants}
use Rattle.rr_game.specs.declared.history.fault.Fault.TheVariants as F
use Rattle.rr_game.specs.History.Changing.{kept_with}
use Rattle.rr_game.specs.History.Tables.{kept_in}
use Rattle.rr_game.specs.History.Verdict.{request_judgement}
use Rattle.rr_game.proofs.HistoryLemmas.Making.{same_change, same_shows, stays_named}
use Rattle.rr_store.proofs.RecoveryLemmas.PlaysLemmas.{shows_next}
use Rattle.rr_store.proofs.recovery.playing.step.Goals as goal

pub returns-in_err-reserve-clause-verdict : goal.returns-in_err-reserve-clause-verdict
returns-in_err-reserve-clause-verdict c played =
    let kit = c.args.kit.now in
    let table = kept_in c.args.table.now in
    let request = Play c.args.command in
    let p = err_from_is_err_and c.from_residual-in_err-reserve.result c.from_residual-in_err-reserve.ensures.1 in
    rw (p.1, p.2) (lawful-wants (request_judgement kit table c.args.stamp request) F.OutOfMemory _ (c.in_ok-change.ensures.verdict played) c.in_err-reserve.ensures.memory)

pub returns-clause-played : goal.returns-clause-played
returns-clause-played c = λ before.
    let kit = c.args.kit.now in
    let request = Play c.args.command in
    c.take.ensures.played kit request (c.reserve.ensures.played kit before)
    (same_change kit (kept_in c.args.table.now) (kept_in c.reserve.new.self) request c.in_ok-change.change c.reserve.ensures.kept (c.in_ok-change.ensures.change before))

pub returns-clause-named : goal.returns-clause-named
returns-clause-named c = λ before named.
    let kit = c.args.kit.now in
    let request = Play c.args.command in
    let old = c.args.table.now in
    let roomy = c.reserve.new.self in
    c.take.ensures.named kit request (c.reserve.ensures.played kit before)
    (same_change kit (kept_in old) (kept_in roomy) request c.in_ok-change.change c.reserve.ensures.kept (c.in_ok-change.ensures.change before))
    (same_shows old roomy request c.in_ok-change.change c.reserve.ensures.kept c.reserve.ensures.game c.in_ok-change.ensures.shows)
    (stays_named old roomy c.reserve.ensures.kept c.reserve.ensures.game c.reserve.ensures.snapshots named)

pub returns-clause-shown : goal.returns-clause-shown
returns-clause-shown c =
    let old = c.args.table.now in
    let roomy = c.reserve.new.self in
    let change = c.in_ok-change.change in
    let kept = c.take.ensures.kept ∙ ap (λ (k : Kept Command). kept_with k change) c.reserve.ensures.kept ∙ c.in_ok-change.ensures.kept in
    let counted : length c.take.new.self.kept.commands ≡ length old.kept.commands + 1 =
    ap (λ (k : Kept Command). length k.commands) kept ∙ length-append old.kept.commands (c.args.command ∷ []) in
    shows_next old roomy c.take.new.self c.args.command change c.reserve.ensures.kept c.reserve.ensures.game c.reserve.ensures.snapshots c.in_ok-change.ensures.shows c.take.ensures.game c.take.ensures.snapshots counted
