-- What a position shows the rules of tiles and tokens is what the book tells them.
use Rattle.std.proofs.Common.{◌≡◌}
use Rattle.rr_books.specs.Book.{Book}
use Rattle.rr_desk.specs.Position.Position.{OnTable, IsPositionOf}
use Rattle.rr_lay.specs.Position.{position_in, position_of, position-of_state}

pub seen : (book : Book) (p : OnTable) → IsPositionOf book p → position_in p.books p.layout ≡ position_of book
seen book p h = position-of_state book p.books p.layout h.books h.layout
