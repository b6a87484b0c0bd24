-- Ranges of a file.
use Rattle.std.specs.Prelude.{ℕ, ◌≤◌}

-- a range of a file of this length
abbrev pub IsWithin : ℕ → ℕ × ℕ → Type 0
IsWithin len range = (range.0 ≤ range.1) × (range.1 ≤ len)
