-- The commands that a buffer of words keeps.
use Rattle.std.proofs.Common.{◌≡◌, ℕ, List, [], ◌∷◌, ◌++◌, All, map, ap, ◌∙◌}
use Rattle.std.proofs.lemmas.List.{map-append}
use Rattle.std.proofs.lemmas.List.Elements.{All-head, All-push, All-tail}
use Rattle.rr_code.specs.Command.{IsCommand, text}
use Rattle.rr_code.specs.declared.command.Command.{Command}
use Rattle.rr_game.specs.History.Spelling.{IsSpelled, command_in}
use Rattle.rr_game.proofs.HistoryLemmas.Spellings.{read-text, spells-text}

-- with the words of one command more
pub spelled_push : (words : List (List ℕ)) (last : List ℕ) (c : Command) → All IsSpelled words → IsCommand c → last ≡ text c → All IsSpelled (words ++ last ∷ [])
spelled_push words last c all form is = All-push IsSpelled words last all (spells-text last c form is)

pub commands_push : (words new : List (List ℕ)) (last : List ℕ) (c : Command) (commands : List Command) → map command_in words ≡ commands → IsCommand c → last ≡ text c
    → new ≡ words ++ last ∷ [] → map command_in new ≡ commands ++ c ∷ []
commands_push words new last c commands seen form is grown =
    ap (map command_in) grown ∙ map-append command_in words (last ∷ [])
    ∙ ap (λ (front : List Command). front ++ command_in last ∷ []) seen
    ∙ ap (λ (d : Command). commands ++ d ∷ []) (read-text last c form is)

-- words are the texts of what they spell
texts : (words : List (List ℕ)) → All IsSpelled words → words ≡ map text (map command_in words)
texts [] all = λ i. []
texts (first ∷ others) all =
    ap (λ (ws : List (List ℕ)). first ∷ ws) (texts others (All-tail IsSpelled first others all))
    ∙ ap (λ (w : List ℕ). w ∷ map text (map command_in others)) (All-head IsSpelled first others all).spelled

pub spelled_texts : (words : List (List ℕ)) (commands : List Command) → All IsSpelled words → map command_in words ≡ commands → words ≡ map text commands
spelled_texts words commands all seen = texts words all ∙ ap (map text) seen
