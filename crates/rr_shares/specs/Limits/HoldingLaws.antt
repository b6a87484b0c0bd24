-- What runs along with a book gives the holdings of the book.
use Rattle.std.specs.Prelude.{◌≡◌, List}
use Rattle.std.proofs.Common.{sym, ap}
use Rattle.rr_roster.specs.declared.company.Corp.{Corp}
use Rattle.rr_roster.specs.Chart.Chart.{Row}
use Rattle.rr_books.specs.Book.{Book}
use Rattle.rr_books.specs.ShareLaws.{holder-of_state}
use Rattle.rr_market.specs.Marks.{price_at, zone_at}
use Rattle.rr_desk.specs.Position.Position.{OnTable, IsPositionOf}
use Rattle.rr_shares.specs.Limits.Holdings.{holdings_of, holdings_in}

pub holdings-of_book : (rows : List Row) (book : Book) (p : OnTable) → IsPositionOf book p → holdings_in rows p ≡ holdings_of rows book
holdings-of_book rows book p h =
    let books = h.books in
    let market = h.market in
    let seats = sym books.players in
    let holders = holder-of_state book p.books books in
    let prices : (c : Corp) → price_at rows _ ≡ price_at rows _ = λ c. ap (price_at rows) (sym (market.cells c)) in
    let zones : (c : Corp) → zone_at rows _ ≡ zone_at rows _ = λ c. ap (zone_at rows) (sym (market.cells c)) in
    λ i. record { players = seats i; holders = holders i; prices = λ c. prices c i; zones = λ c. zones c i }
