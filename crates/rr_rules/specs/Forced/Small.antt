-- Commands whose seat and number are small, as those of every command that isn't refused are.
use Rattle.std.specs.Prelude.{◌<◌, ◌≤◌}
use Rattle.rr_books.specs.declared.acts.Act.{Act}
use Rattle.rr_books.specs.declared.acts.Act.TheVariants as A

-- the seat of a sale is one of six, and sells no more shares than a corporation has
abbrev pub IsSmall : Act → Type 0
IsSmall (A.Raise s c n) = (s.0 < 6) × (n ≤ 10)
IsSmall _ = Unit {0}
