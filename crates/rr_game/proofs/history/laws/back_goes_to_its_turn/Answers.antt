use Rattle.std.proofs.Common.{◌≡◌, ◌≤◌, ℕ, List, ap, subst, ◌∙◌}
use Rattle.rr_code.specs.declared.command.Command.{Command}
use Rattle.rr_game.specs.Keeping.{IsGameOf}
use Rattle.rr_turns.specs.Kept.{Kept}
use Rattle.rr_turns.specs.Turns.{ended_turns, first_turns}
use Rattle.rr_turns.proofs.TurnLemmas.{back-turns}
use Rattle.rr_game.specs.Turning.{ends_turn}
use Rattle.rr_game.proofs.HistoryLemmas.Plays.{turns_ended}
use Rattle.rr_game.proofs.history.laws.back_goes_to_its_turn.Goals as goal

pub returns : goal.returns
returns c = λ kit k old new h ended kept played.
    let same : new.kept.commands ≡ first_turns (ends_turn kit) k old.kept.commands = ap (λ (t : Kept Command). t.commands) kept in
    let P : ℕ → Type 0 = λ n. k ≤ n in
    let there = subst P (turns_ended kit old.kept.commands old.game h.played) ended in
    let P2 : List Command → Type 0 = λ cs. IsGameOf kit cs new.game in (
      turns_ended kit new.kept.commands new.game played.played ∙ ap (ended_turns (ends_turn kit)) same
          ∙ back-turns (ends_turn kit) old.kept.commands k there,
      subst P2 same played.played,
    )
