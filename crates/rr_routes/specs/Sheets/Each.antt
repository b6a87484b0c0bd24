-- Reading one word after another.
use Rattle.std.specs.Prelude.{ℕ, List, [], ◌∷◌, Option, Some, option_map, option_and_then}

-- what each of the words is read as, if each can be read
unfoldable pub each : {X : Type 0} → (List ℕ → Option X) → List (List ℕ) → Option (List X)
each read [] = Some []
each read (word ∷ words) = option_and_then (λ x. option_map (λ xs. x ∷ xs) (each read words)) (read word)
