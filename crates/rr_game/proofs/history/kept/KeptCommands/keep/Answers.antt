use Rattle.std.proofs.Common.{All, List, ℕ, ◌∙◌, ◌++◌, ◌∷◌, [], ap, subst, sym}
use Rattle.std.proofs.lemmas.List.Elements.{All-push}
use Rattle.rr_game.specs.History.Spelling.{IsSpelled}
use Rattle.rr_game.proofs.history.kept.KeptCommands.keep.Goals as goal

pub invariant_of-self-2 : goal.invariant_of-self-2
invariant_of-self-2 c =
    let grown = c.push.ensures ∙ ap (λ (all : List (List ℕ)). all ++ c.args.words.now ∷ []) c.in_ok-reserve.ensures.commands in
    subst (λ (all : List (List ℕ)). All IsSpelled all) (sym grown)
    (All-push IsSpelled c.self.inside.words.commands c.args.words.now c.self.invariant (c.is_spelled.ensures.spelled c.if-not-is_spelled.false))
