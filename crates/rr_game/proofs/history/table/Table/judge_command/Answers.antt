use Rattle.std.proofs.Common.{◌≡◌, ◌+◌, length, inl, inr, refl, arith}
use Rattle.std.proofs.lemmas.Result.{err_from_is_err_and}
use Rattle.rr_books.specs.declared.refusal.Refusal.TheVariants as G
use Rattle.rr_turns.specs.declared.request.Request.TheVariants.{Play}
use Rattle.rr_turns.specs.Judgement.{judgement_map}
use Rattle.rr_turns.proofs.JudgementLemmas.{behind-finds, lawful-wants, map-finds}
use Rattle.rr_game.specs.declared.history.fault.Fault.TheVariants as F
use Rattle.rr_game.specs.History.Fault.{of_game}
use Rattle.rr_game.specs.History.Playing.{game_judgement}
use Rattle.rr_game.specs.History.Tables.{kept_in, turns_in}
use Rattle.rr_game.specs.History.Verdict.{own_judgement, room_verdict}
use Rattle.rr_game.proofs.HistoryLemmas.Judging.{has_room, lawful_with_room}
use Rattle.rr_game.proofs.HistoryLemmas.Seeing.{full_room, seen_full, seen_lawful, seen_refuses, seen_wants}
use Rattle.rr_game.proofs.HistoryLemmas.Changes.{command_change, fits_by, kept_by}
use Rattle.rr_game.proofs.history.table.Table.judge_command.Goals as goal

pub returns-in_err-game-clause-verdict : goal.returns-in_err-game-clause-verdict
returns-in_err-game-clause-verdict c h =
    let p = err_from_is_err_and c.from_residual.result c.from_residual.ensures.1 in
    let table = kept_in c.args.self.now in
    let all : c.len-count.result ≡ length c.args.self.now.kept.commands = c.len-count.ensures.value in
    let judged = game_judgement c.args.kit.now table.commands c.args.command.now in
    rw (p.1, p.2)
    (behind-finds (room_verdict table) (judgement_map of_game judged) F.OutOfMemory _ (has_room table c.len-count.result all c.if-count-ge-MOST_COMMANDS.false)
    (map-finds of_game judged G.OutOfMemory _ (c.in_err-game.ensures.verdict c.args.self.now.kept.commands h.played)))

pub returns-in_err-added-clause-verdict : goal.returns-in_err-added-clause-verdict
returns-in_err-added-clause-verdict c h =
    let p = err_from_is_err_and c.from_residual-in_err-added.result c.from_residual-in_err-added.ensures.1 in
    let table = kept_in c.args.self.now in
    let all : c.len-count.result ≡ length c.args.self.now.kept.commands = c.len-count.ensures.value in
    let lawful = lawful_with_room c.args.kit.now table c.args.command.now (has_room table c.len-count.result all c.if-count-ge-MOST_COMMANDS.false)
    (c.in_ok-game.ensures.verdict c.args.self.now.kept.commands h.played) in
    rw (p.1, p.2) (lawful-wants (own_judgement c.args.kit.now table (Play c.args.command.now)) F.OutOfMemory _ lawful c.in_err-added.ensures.memory)

pub returns-in_err-snapshot-clause-verdict : goal.returns-in_err-snapshot-clause-verdict
returns-in_err-snapshot-clause-verdict c h =
    let p = err_from_is_err_and c.from_residual-in_err-snapshot.result c.from_residual-in_err-snapshot.ensures.1 in
    let table = kept_in c.args.self.now in
    let all : c.len-count.result ≡ length c.args.self.now.kept.commands = c.len-count.ensures.value in
    let lawful = lawful_with_room c.args.kit.now table c.args.command.now (has_room table c.len-count.result all c.if-count-ge-MOST_COMMANDS.false)
    (c.in_ok-game.ensures.verdict c.args.self.now.kept.commands h.played) in
    rw (p.1, p.2) (lawful-wants (own_judgement c.args.kit.now table (Play c.args.command.now)) F.OutOfMemory _ lawful c.in_err-snapshot.ensures.memory)

pub returns-clause-verdict : goal.returns-clause-verdict
returns-clause-verdict c h =
    let table = kept_in c.args.self.now in
    let all : c.len-count.result ≡ length c.args.self.now.kept.commands = c.len-count.ensures.value in
    lawful_with_room c.args.kit.now table c.args.command.now (has_room table c.len-count.result all c.if-count-ge-MOST_COMMANDS.false)
    (c.in_ok-game.ensures.verdict c.args.self.now.kept.commands h.played)

pub returns-clause-change : goal.returns-clause-change
returns-clause-change c h =
    let all : c.len-count.result ≡ length c.args.self.now.kept.commands = c.len-count.ensures.value in
    command_change c.args.kit.now (kept_in c.args.self.now) c.args.command.now c.in_ok-added.added
    c.in_ok-snapshot.snapshot c.in_ok-game.game c.len-count.result 1
    c.in_ok-added.ensures.value c.in_ok-snapshot.ensures.value c.in_ok-snapshot.ensures.spelled all
    (c.in_ok-game.ensures.verdict c.args.self.now.kept.commands h.played)
    (c.in_ok-game.ensures.game c.args.self.now.kept.commands h.played)

pub returns-clause-kept : goal.returns-clause-kept
returns-clause-kept c =
    let all : c.len-count.result ≡ length c.args.self.now.kept.commands = c.len-count.ensures.value in
    kept_by c.args.kit.now (kept_in c.args.self.now) c.args.command.now c.in_ok-added.added c.in_ok-snapshot.snapshot c.in_ok-game.game (turns_in c.args.self.now)
    c.len-count.result 1 c.in_ok-added.ensures.value all

pub returns-clause-fits : goal.returns-clause-fits
returns-clause-fits c =
    let table = c.args.self.now in
    let all : c.len-count.result ≡ length table.kept.commands = c.len-count.ensures.value in
    let played : c.in_ok-game.game.played ≡ c.len-count.result + 1 = omega (arith, c.in_ok-game.ensures.played, table.counted, c.len-count.ensures) in
    fits_by (kept_in table) c.in_ok-added.added c.in_ok-snapshot.snapshot c.in_ok-game.game c.len-count.result 1 all c.if-count-ge-MOST_COMMANDS.false c.requires.stamp played

pub returns-clause-shows : goal.returns-clause-shows
returns-clause-shows c = record { turn = tt; stay = c.len-count.ensures.value; least = refl; snapshot = c.in_ok-snapshot.ensures.value }

pub returns-then-count-ge-MOST_COMMANDS-clause-judged : goal.returns-then-count-ge-MOST_COMMANDS-clause-judged
returns-then-count-ge-MOST_COMMANDS-clause-judged c = λ seen is.
    let all : c.len-count.result ≡ length c.args.self.now.kept.commands = c.len-count.ensures.value in
    seen_full c.args.kit.now c.args.self.now seen is c.args.command.now c.len-count.result all c.if-count-ge-MOST_COMMANDS.true

pub returns-in_err-game-clause-judged : goal.returns-in_err-game-clause-judged
returns-in_err-game-clause-judged c = λ seen is.
    let p = err_from_is_err_and c.from_residual.result c.from_residual.ensures.1 in
    let table = c.args.self.now in
    let all : c.len-count.result ≡ length table.kept.commands = c.len-count.ensures.value in
    rw (p.1, p.2)
    (seen_refuses c.args.kit.now table seen is c.args.command.now (has_room (kept_in table) c.len-count.result all c.if-count-ge-MOST_COMMANDS.false) _
    (c.in_err-game.ensures.judged seen.state is.standing))

pub returns-in_err-added-clause-judged : goal.returns-in_err-added-clause-judged
returns-in_err-added-clause-judged c = λ seen is.
    let p = err_from_is_err_and c.from_residual-in_err-added.result c.from_residual-in_err-added.ensures.1 in
    let table = c.args.self.now in
    let all : c.len-count.result ≡ length table.kept.commands = c.len-count.ensures.value in
    rw (p.1, p.2)
    (seen_wants c.args.kit.now table seen is c.args.command.now (has_room (kept_in table) c.len-count.result all c.if-count-ge-MOST_COMMANDS.false) _
    (c.in_ok-game.ensures.judged seen.state is.standing) c.in_err-added.ensures.memory)

pub returns-in_err-snapshot-clause-judged : goal.returns-in_err-snapshot-clause-judged
returns-in_err-snapshot-clause-judged c = λ seen is.
    let p = err_from_is_err_and c.from_residual-in_err-snapshot.result c.from_residual-in_err-snapshot.ensures.1 in
    let table = c.args.self.now in
    let all : c.len-count.result ≡ length table.kept.commands = c.len-count.ensures.value in
    rw (p.1, p.2)
    (seen_wants c.args.kit.now table seen is c.args.command.now (has_room (kept_in table) c.len-count.result all c.if-count-ge-MOST_COMMANDS.false) _
    (c.in_ok-game.ensures.judged seen.state is.standing) c.in_err-snapshot.ensures.memory)

pub returns-clause-judged : goal.returns-clause-judged
returns-clause-judged c = λ seen is.
    let table = c.args.self.now in
    let all : c.len-count.result ≡ length table.kept.commands = c.len-count.ensures.value in
    seen_lawful c.args.kit.now table seen is c.args.command.now (has_room (kept_in table) c.len-count.result all c.if-count-ge-MOST_COMMANDS.false)
    (c.in_ok-game.ensures.judged seen.state is.standing)

pub returns-in_err-game-clause-plain : goal.returns-in_err-game-clause-plain
returns-in_err-game-clause-plain c =
    let p = err_from_is_err_and c.from_residual.result c.from_residual.ensures.1 in
    let all : c.len-count.result ≡ length c.args.self.now.kept.commands = c.len-count.ensures.value in
    rw p.1 (inr (has_room (kept_in c.args.self.now) c.len-count.result all c.if-count-ge-MOST_COMMANDS.false))

pub returns-in_err-added-clause-plain : goal.returns-in_err-added-clause-plain
returns-in_err-added-clause-plain c =
    let p = err_from_is_err_and c.from_residual-in_err-added.result c.from_residual-in_err-added.ensures.1 in
    let all : c.len-count.result ≡ length c.args.self.now.kept.commands = c.len-count.ensures.value in
    rw p.1 (inr (has_room (kept_in c.args.self.now) c.len-count.result all c.if-count-ge-MOST_COMMANDS.false))

pub returns-in_err-snapshot-clause-plain : goal.returns-in_err-snapshot-clause-plain
returns-in_err-snapshot-clause-plain c =
    let p = err_from_is_err_and c.from_residual-in_err-snapshot.result c.from_residual-in_err-snapshot.ensures.1 in
    let all : c.len-count.result ≡ length c.args.self.now.kept.commands = c.len-count.ensures.value in
    rw p.1 (inr (has_room (kept_in c.args.self.now) c.len-count.result all c.if-count-ge-MOST_COMMANDS.false))

pub returns-then-count-ge-MOST_COMMANDS-clause-plain : goal.returns-then-count-ge-MOST_COMMANDS-clause-plain
returns-then-count-ge-MOST_COMMANDS-clause-plain c =
    let all : c.len-count.result ≡ length c.args.self.now.kept.commands = c.len-count.ensures.value in
    inl (full_room (kept_in c.args.self.now) c.len-count.result all c.if-count-ge-MOST_COMMANDS.true)

pub returns-clause-plain : goal.returns-clause-plain
returns-clause-plain c =
    let all : c.len-count.result ≡ length c.args.self.now.kept.commands = c.len-count.ensures.value in
    has_room (kept_in c.args.self.now) c.len-count.result all c.if-count-ge-MOST_COMMANDS.false
