-- What lies on a desk: the position, and the entries of the command under way.
use Rattle.std.specs.Prelude.{◌≡◌, [], ◌++◌}
use Rattle.rr_books.specs.Book.{Book}
use Rattle.rr_desk.specs.Effects.{Effect}
use Rattle.rr_desk.specs.Position.Position.{OnTable, IsPositionOf}

pub record OnDesk : Type 0 where
  pub position : OnTable
  pub entries : Book

-- the desk's position stands for the table's book with the entries so far
abbrev pub Holds : Book → OnDesk → Type 0
Holds book d = IsPositionOf (book ++ d.entries) d.position

-- the desk took the effect: its entries follow on those before, and the position stands for them too
abbrev pub Takes : Effect → OnDesk → OnDesk → Type 0
Takes effect old new = (book : Book) → Holds book old → (new.entries ≡ old.entries ++ effect (book ++ old.entries)) × Holds book new

-- the effect adds an entry to whatever book the desk is of
abbrev pub AddsSome : Effect → OnDesk → Type 0
AddsSome effect d = (book : Book) → Holds book d → effect (book ++ d.entries) ≡ [] → ⊥
