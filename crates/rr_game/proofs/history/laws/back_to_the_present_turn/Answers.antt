use Rattle.std.proofs.Common.{◌≡◌, List, ap, subst, ◌∙◌}
use Rattle.rr_code.specs.declared.command.Command.{Command}
use Rattle.rr_game.specs.Keeping.{IsGameOf}
use Rattle.rr_turns.specs.Kept.{Kept}
use Rattle.rr_turns.specs.Turns.{first_turns}
use Rattle.rr_turns.proofs.TurnLemmas.{present}
use Rattle.rr_game.specs.Turning.{ends_turn}
use Rattle.rr_game.proofs.HistoryLemmas.Plays.{turns_ended}
use Rattle.rr_game.proofs.history.laws.back_to_the_present_turn.Goals as goal

pub returns : goal.returns
returns c = λ kit old new h ended kept played.
    let same : new.kept.commands ≡ old.kept.commands =
    ap (λ (t : Kept Command). t.commands) kept
    ∙ ap (λ n. first_turns (ends_turn kit) n old.kept.commands) (turns_ended kit old.kept.commands old.game h.played)
    ∙ present (ends_turn kit) old.kept.commands ended in
    let P : List Command → Type 0 = λ cs. IsGameOf kit cs new.game in
    (subst P same played.played, same)
