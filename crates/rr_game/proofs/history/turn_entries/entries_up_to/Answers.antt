use Rattle.std.proofs.Common.{◌≡◌, ℕ, ◌+◌, ◌≤◌, ◌++◌, List, take, sym, ap, subst, ◌∙◌, arith}
use Rattle.std.proofs.lemmas.Result.{err_from_is_err_and}
use Rattle.rr_books.specs.Book.{Book}
use Rattle.rr_books.specs.declared.refusal.Refusal.TheVariants as G
use Rattle.rr_code.specs.declared.command.Command.{Command}
use Rattle.rr_turns.proofs.JudgementLemmas.{map-finds}
use Rattle.rr_entries.specs.Words.{joined}
use Rattle.rr_game.specs.Keeping.{IsGameOf}
use Rattle.rr_game.specs.Play.{play}
use Rattle.rr_game.specs.History.Fault.{of_game}
use Rattle.rr_game.specs.History.Playing.{game_judgement}
use Rattle.rr_game.proofs.HistoryLemmas.Plays.{only_memory}
use Rattle.rr_game.proofs.HistoryLemmas.Replays.{lawful_there, one_more, some_played}
use Rattle.rr_game.proofs.HistoryLemmas.TurnEntries.{one_command_more}
use Rattle.rr_game.proofs.history.turn_entries.entries_up_to.Goals as goal

pub loop-place-preserved : goal.loop-place-preserved
loop-place-preserved c =
    let kit = c.args.kit.now in
    let commands = c.args.kept.now.commands in
    let command = c.command-command.result in
    let front = take c.loop-place.place commands in
    let more = one_more commands c.loop-place.place command c.command-command.ensures.value in
    let Q : List Command → Type 0 = λ cs. IsGameOf kit cs c.in_ok-applied.applied.game in
    record {
      count = omega (arith, c.in_ok-applied.ensures.played, c.loop-place.invariant.count);
      stands = λ begun. subst Q (sym more) (c.in_ok-applied.ensures.game front (c.loop-place.invariant.stands begun));
      entries =
          λ begun.
          let stands = c.loop-place.invariant.stands begun in
          let before = (play kit (take c.args.game.played commands)).book in
          ap (λ (bs : List Book). before ++ joined bs) c.in_ok-push.ensures.items
          ∙ one_command_more kit front command before c.loop-place.all.items c.in_ok-applied.applied.entries (take (c.loop-place.place + 1) commands) stands.opening
          (c.loop-place.invariant.entries begun) (c.in_ok-applied.ensures.entries front stands) more;
    }

pub returns-clause-entries : goal.returns-clause-entries
returns-clause-entries c = λ order begun.
    let high = c.loop-place.auto.place-end order in
    let same : c.loop-place.place ≡ c.args.count = omega (arith, c.loop-place-test.false, high) in
    c.loop-place.invariant.entries begun ∙ ap (λ (n : ℕ). (play c.args.kit.now (take n c.args.kept.now.commands)).book) same

pub returns-in_err-applied-clause-memory : goal.returns-in_err-applied-clause-memory
returns-in_err-applied-clause-memory c = λ begun. λ lawful.
    let p = err_from_is_err_and c.from_residual.result c.from_residual.ensures.1 in
    let kit = c.args.kit.now in
    let commands = c.args.kept.now.commands in
    let front = take c.loop-place.place commands in
    let command = c.command-command.result in
    let stands = c.loop-place.invariant.stands begun in
    let some = some_played kit (take c.args.game.played commands) c.args.game begun in
    let behind : 1 ≤ c.loop-place.place = omega (arith, some, c.loop-place.auto.place) in
    let there = lawful_there kit commands c.args.count c.loop-place.place command behind c.loop-place-test.true c.command-command.ensures.value lawful in
    rw (p.1, p.2)
    (only_memory c.commands_have_one_verdict.ensures kit front command _ there
    (map-finds of_game (game_judgement kit front command) G.OutOfMemory _
    (c.in_err-applied.ensures.verdict front stands)))
