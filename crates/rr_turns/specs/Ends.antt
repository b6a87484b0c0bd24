-- How many commands are kept at the end of each turn.
use Rattle.std.specs.Prelude.{◌≡◌, ℕ, ◌+◌, ◌≤◌, Bool, List, [], ◌∷◌, ◌++◌, Option, MatchOption, length, slice_index, take, true, ◌<◌, if◌then◌else◌}
use Rattle.std.specs.List.{All}
use Rattle.rr_turns.specs.Turns.{ended_turns, first_turns}

-- of these commands, how many are kept, with those before them, at the end of each turn that they end
abbrev pub ends_in : {C : Type 0} → (List C → C → Bool) → List C → List C → List ℕ
ends_in ends before [] = []
ends_in ends before (c ∷ cs) =
    (if ends before c then (length before + 1) ∷ [] else []) ++ ends_in ends (before ++ c ∷ []) cs

-- how many are kept at the end of each turn, from turn 0 on, which the opening is
abbrev pub turn_ends : {C : Type 0} → (List C → C → Bool) → List C → List ℕ
turn_ends ends [] = []
turn_ends ends (opening ∷ commands) = 1 ∷ ends_in ends (opening ∷ []) commands

-- how many are kept at the end of a turn
abbrev pub kept_at : List ℕ → ℕ → ℕ
kept_at counts k = slice_index counts k

-- a table that is taken back to a turn keeps so many of its commands
abbrev pub BackKeepsItsCount : Type 0 → Type 0
BackKeepsItsCount C =
    (ends : List C → C → Bool) (commands : List C) (k : ℕ) → k ≤ ended_turns ends commands
    → first_turns ends k commands ≡ take (kept_at (turn_ends ends commands) k) commands

-- one command more tells one end more, if it ends a turn
abbrev pub EndsGrowAtTheEnd : Type 0 → Type 0
EndsGrowAtTheEnd C =
    (ends : List C → C → Bool) (opening : C) (others : List C) (last : C)
    → turn_ends ends (opening ∷ others ++ last ∷ [])
    ≡ turn_ends ends (opening ∷ others) ++ (if ends (opening ∷ others) last then (length (opening ∷ others) + 1) ∷ [] else [])

-- there is one end for each turn that has ended, and one for turn 0
abbrev pub EachTurnHasItsEnd : Type 0 → Type 0
EachTurnHasItsEnd C =
    (ends : List C → C → Bool) (opening : C) (others : List C)
    → length (turn_ends ends (opening ∷ others)) ≡ ended_turns ends (opening ∷ others) + 1

-- a table that is taken back to a turn keeps the ends up to that turn's
abbrev pub BackKeepsItsEnds : Type 0 → Type 0
BackKeepsItsEnds C =
    (ends : List C → C → Bool) (commands : List C) (k : ℕ)
    → turn_ends ends (first_turns ends k commands) ≡ take (k + 1) (turn_ends ends commands)

-- no end keeps more commands than there are
abbrev pub EndsAreWithinTheCommands : Type 0 → Type 0
EndsAreWithinTheCommands C = (ends : List C → C → Bool) (commands : List C) → All (λ count. count ≤ length commands) (turn_ends ends commands)

-- where the old counts are a table's and its next command ends a turn, the new ones are those of the table with it
abbrev pub TellsOneEndMore : Type 0 → List ℕ → ℕ → List ℕ → Type 0
TellsOneEndMore C old count new =
    (ends : List C → C → Bool) (opening : C) (others : List C) (last : C)
    → old ≡ turn_ends ends (opening ∷ others) → count ≡ length (opening ∷ others) + 1 → ends (opening ∷ others) last ≡ true
    → new ≡ turn_ends ends (opening ∷ others ++ last ∷ [])

-- where the old counts are a table's, the new ones are those of the table taken back to a turn
abbrev pub TellsTheEndsOfABack : Type 0 → List ℕ → ℕ → List ℕ → Type 0
TellsTheEndsOfABack C old k new =
    (ends : List C → C → Bool) (commands : List C) → old ≡ turn_ends ends commands → new ≡ turn_ends ends (first_turns ends k commands)

-- where the counts are a table's, one is given for each turn that has ended, and a take-back keeps so many commands
abbrev pub TellsTheCountOfABack : Type 0 → List ℕ → ℕ → Option ℕ → Type 0
TellsTheCountOfABack C counts k result =
    (ends : List C → C → Bool) (opening : C) (others : List C) → counts ≡ turn_ends ends (opening ∷ others)
    → let turns = ended_turns ends (opening ∷ others) in
    MatchOption result (turns < k) (λ count. (k ≤ turns) × (first_turns ends k (opening ∷ others) ≡ take count (opening ∷ others)))

-- where the counts are a table's, so many of its turns have ended
abbrev pub TellsTheEndedTurns : Type 0 → List ℕ → ℕ → Type 0
TellsTheEndedTurns C counts turns =
    (ends : List C → C → Bool) (opening : C) (others : List C) → counts ≡ turn_ends ends (opening ∷ others)
    → turns ≡ ended_turns ends (opening ∷ others)
