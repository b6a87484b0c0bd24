-- The entries of a table that opens.
use Rattle.std.specs.Prelude.{ℕ, List, [], ◌∷◌, ◌++◌, length}
use Rattle.rr_roster.specs.Terms.{Terms}
use Rattle.rr_books.specs.declared.entries.Entry.TheVariants as E
use Rattle.rr_books.specs.declared.entries.Marker.TheVariants as M
use Rattle.rr_books.specs.Book.{Book}
use Rattle.rr_books.specs.Opening.{opening_entries}

-- the players sit down, and the auction begins
abbrev pub opened : List (List ℕ) → Terms → Book
opened names roster = opening_entries (length names) roster ++ E.Step (M.Auction names) ∷ []
