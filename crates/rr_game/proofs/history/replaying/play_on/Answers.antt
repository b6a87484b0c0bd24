use Rattle.std.proofs.Common.{◌≡◌, ℕ, ◌≤◌, List, take, sym, subst, arith}
use Rattle.std.proofs.lemmas.Result.{err_from_is_err_and}
use Rattle.rr_books.specs.declared.refusal.Refusal.TheVariants as G
use Rattle.rr_code.specs.declared.command.Command.{Command}
use Rattle.rr_turns.proofs.JudgementLemmas.{map-finds}
use Rattle.rr_game.specs.Keeping.{IsGameOf}
use Rattle.rr_game.specs.History.Fault.{of_game}
use Rattle.rr_game.specs.History.Playing.{game_judgement}
use Rattle.rr_game.proofs.HistoryLemmas.Plays.{only_memory}
use Rattle.rr_game.proofs.HistoryLemmas.Replays.{lawful_there, one_more, some_played}
use Rattle.rr_game.proofs.history.replaying.play_on.Goals as goal

pub loop-place-preserved : goal.loop-place-preserved
loop-place-preserved c =
    let front = take c.loop-place.place c.args.kept.now.commands in
    let Q : List Command → Type 0 = λ cs. IsGameOf c.args.kit.now cs c.in_ok-next.next in
    record {
      count = omega (arith, c.in_ok-next.ensures.played, c.loop-place.invariant.count);
      plays = omega (arith, c.loop-place.invariant.plays);
      stands =
          λ begun.
          subst Q (sym (one_more c.args.kept.now.commands c.loop-place.place c.command-command.result c.command-command.ensures.value))
          (c.in_ok-next.ensures.game front (c.loop-place.invariant.stands begun));
    }

pub returns-clause-game : goal.returns-clause-game
returns-clause-game c = λ begun.
    let high = c.loop-place.auto.place-end c.requires.order in
    let same : c.loop-place.place ≡ c.args.count = omega (arith, c.loop-place-test.false, high) in
    subst (λ (n : ℕ). IsGameOf c.args.kit.now (take n c.args.kept.now.commands) c.loop-place.next) same (c.loop-place.invariant.stands begun)

pub returns-in_err-next-clause-memory : goal.returns-in_err-next-clause-memory
returns-in_err-next-clause-memory c = λ begun. λ lawful.
    let p = err_from_is_err_and c.from_residual.result c.from_residual.ensures.1 in
    let kit = c.args.kit.now in
    let commands = c.args.kept.now.commands in
    let front = take c.loop-place.place commands in
    let command = c.command-command.result in
    let stands = c.loop-place.invariant.stands begun in
    let some = some_played kit (take c.args.game.played commands) c.args.game begun in
    let behind : 1 ≤ c.loop-place.place = omega (arith, some, c.loop-place.auto.place) in
    let there = lawful_there kit commands c.args.count c.loop-place.place command behind c.loop-place-test.true c.command-command.ensures.value lawful in
    rw (p.1, p.2)
    (only_memory c.commands_have_one_verdict.ensures kit front command _ there
    (map-finds of_game (game_judgement kit front command) G.OutOfMemory _
    (c.in_err-next.ensures.verdict front stands)))
