-- What runs along with a book gives the situation of the book.
use Rattle.std.specs.Prelude.{◌≡◌, List}
use Rattle.std.proofs.Common.{sym, ap}
use Rattle.rr_roster.specs.declared.company.Corp.{Corp}
use Rattle.rr_roster.specs.Chart.Chart.{Row}
use Rattle.rr_books.specs.declared.parties.Party.{Party}
use Rattle.rr_books.specs.Book.{Book, balance}
use Rattle.rr_books.specs.State.{cash_of}
use Rattle.rr_market.specs.Marks.{first_mark_of, price_at}
use Rattle.rr_market.specs.State.{first_in}
use Rattle.rr_rounds.specs.Round.{progress}
use Rattle.rr_desk.specs.Position.Position.{OnTable, IsPositionOf}
use Rattle.rr_shares.specs.Limits.HoldingLaws.{holdings-of_book}
use Rattle.rr_stock.specs.Situation.{situation_of, situation_in}

pub situation-of_book : (rows : List Row) (book : Book) (p : OnTable) → IsPositionOf book p → situation_in rows p ≡ situation_of rows book
situation-of_book rows book p h =
    let books = h.books in
    let market = h.market in
    let paid : (x : Party) → cash_of p.books x ≡ balance book x = λ x. sym (books.balances x) in
    let held = holdings-of_book rows book p h in
    let begun : (c : Corp) → price_at rows (first_in p.market c) ≡ price_at rows (first_mark_of book c) = λ c. ap (price_at rows) (sym (market.firsts c)) in
    let so_far : p.rounds ≡ progress book = sym h.rounds in
    λ i. record { money = λ x. paid x i; holdings = held i; pars = λ c. begun c i; progress = so_far i }
