-- The tiles and tokens that a book has put on the board.
use Rattle.std.specs.Prelude.{◌≡◌, ℕ, Bool, true, false, nat_lt, List, [], ◌∷◌, ◌++◌, length, Option, None, Some, find, reverse, bytes_eq, filter_map}
use Rattle.rr_books.specs.Book.{Book}
use Rattle.rr_books.specs.declared.entries.Entry.{Entry}
use Rattle.rr_books.specs.declared.entries.Entry.TheVariants as E
use Rattle.rr_desk.specs.declared.layout.layout.Lay.{Lay}
use Rattle.rr_desk.specs.declared.layout.layout.Station.{Station}
use Rattle.rr_desk.specs.declared.layout.layout.TheConstants.{MOST_LAYS, MOST_STATIONS}

abbrev pub lay_in : Entry → Option Lay
lay_in (E.Lay hex tile turn) = Some (record { hex = hex; tile = tile; turn = turn })
lay_in _ = None

abbrev pub station_in : Entry → Option Station
station_in (E.Station corp hex centre) = Some (record { corp = corp; hex = hex; centre = centre })
station_in _ = None

-- the tiles that the book has laid, oldest first
unfoldable pub lays : Book → List Lay
lays book = filter_map lay_in book

-- the tokens that the book has put on the board, oldest first
unfoldable pub stations : Book → List Station
stations book = filter_map station_in book

-- the last tile that was laid on a hex
abbrev pub last_lay : List Lay → List ℕ → Option Lay
last_lay all hex = find (λ lay. bytes_eq lay.hex hex) (reverse all)

-- what was put on a board
pub record Placed : Type 0 where
  pub lays : List Lay
  pub stations : List Station

-- this is what the book has put there
pub record IsLayoutOf (book : Book) (placed : Placed) : Type 0 where
  pub tiles : lays book ≡ placed.lays
  pub tokens : stations book ≡ placed.stations

-- the new state stands for every book that the old one stood for, with these entries more
abbrev pub Extends : Placed → Placed → Book → Type 0
Extends old new entries = (book : Book) → IsLayoutOf book old → IsLayoutOf (book ++ entries) new

-- there is room for what the entry puts on the board
abbrev pub has_room : Placed → Entry → Bool
has_room placed (E.Lay hex tile turn) = nat_lt (length placed.lays) MOST_LAYS
has_room placed (E.Station corp hex centre) = nat_lt (length placed.stations) MOST_STATIONS
has_room placed _ = true

-- the entry puts nothing on the board
abbrev pub puts_nothing : Entry → Bool
puts_nothing (E.Lay hex tile turn) = false
puts_nothing (E.Station corp hex centre) = false
puts_nothing _ = true
