use Rattle.std.proofs.Common.{◌≡◌, ◌≤◌, ℕ, length, take, ap, subst, ◌∙◌}
use Rattle.std.proofs.lemmas.List.{length-take-le}
use Rattle.rr_code.specs.declared.command.Command.{Command}
use Rattle.rr_turns.specs.Ends.{kept_at}
use Rattle.rr_turns.specs.Kept.{Kept}
use Rattle.rr_game.proofs.TurnEnds.{front_told, kept_within}
use Rattle.rr_game.proofs.HistoryLemmas.Plays.{turns_ended}
use Rattle.rr_game.proofs.history.laws.back_keeps_its_count.Goals as goal

pub returns : goal.returns
returns c = λ kit k old new h ended kept.
    let P : ℕ → Type 0 = λ n. k ≤ n in
    let there = subst P (turns_ended kit old.kept.commands old.game h.played) ended in
    let count = kept_at old.game.ends k in
    let same : new.kept.commands ≡ take count old.kept.commands =
    ap (λ (t : Kept Command). t.commands) kept ∙ front_told kit old.kept.commands old.game k h.played there in
    (ap length same ∙ length-take-le count old.kept.commands (kept_within kit old.kept.commands old.game k h.played there), same)
