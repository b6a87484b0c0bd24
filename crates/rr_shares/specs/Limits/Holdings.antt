-- What the rules on holdings look at: who holds each certificate, and where each corporation's shares stand.
use Rattle.std.specs.Prelude.{ℕ, List, Option}
use Rattle.rr_roster.specs.declared.company.Corp.{Corp}
use Rattle.rr_roster.specs.Chart.Chart.{Row}
use Rattle.rr_roster.specs.declared.chart.cell.Zone.{Zone}
use Rattle.rr_books.specs.declared.parties.Seat.{Seat}
use Rattle.rr_books.specs.declared.parties.Place.TheVariants as L
use Rattle.rr_books.specs.Book.{Book, players, holder}
use Rattle.rr_books.specs.Shares.{Holders, share}
use Rattle.rr_books.specs.State.{holder_in}
use Rattle.rr_market.specs.Marks.{price_of, zone_of, price_at, zone_at}
use Rattle.rr_market.specs.State.{cell_in}
use Rattle.rr_desk.specs.Position.Position.{OnTable}

-- the number of players, the holder of each certificate, and the price and the zone of each corporation's shares,
-- which have none before its token is on the chart
pub record Holdings : Type 0 where
  pub players : ℕ
  pub holders : Holders
  pub prices : Corp → Option ℕ
  pub zones : Corp → Option Zone

-- the holdings by a table's book
abbrev pub holdings_of : List Row → Book → Holdings
holdings_of rows book = record { players = players book; holders = holder book; prices = price_of rows book; zones = zone_of rows book }

-- the holdings by what runs along with the book
abbrev pub holdings_in : List Row → OnTable → Holdings
holdings_in rows p = record {
  players = p.books.players;
  holders = holder_in p.books;
  prices = λ c. price_at rows (cell_in p.market c);
  zones = λ c. zone_at rows (cell_in p.market c);
}

-- how much of a corporation a seat holds, in percent
abbrev pub percent_of : Holdings → Seat → Corp → ℕ
percent_of h s c = share h.holders (L.Seat s) c
