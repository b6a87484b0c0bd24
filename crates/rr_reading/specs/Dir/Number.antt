-- What is written behind other bytes.
use Rattle.std.specs.Prelude.{◌≡◌, ℕ, List, length, take}

-- what was written stays, and more may follow
abbrev pub Continues : List ℕ → List ℕ → Type 0
Continues before after = take (length before) after ≡ before
