-- What the rules of a stock round look at.
use Rattle.std.specs.Prelude.{ℕ, ℤ, List, Option}
use Rattle.rr_roster.specs.declared.company.Corp.{Corp}
use Rattle.rr_roster.specs.Chart.Chart.{Row}
use Rattle.rr_books.specs.declared.parties.Party.{Party}
use Rattle.rr_books.specs.Book.{Book, balance}
use Rattle.rr_books.specs.State.{cash_of}
use Rattle.rr_market.specs.Marks.{par_of, price_at}
use Rattle.rr_market.specs.State.{first_in}
use Rattle.rr_rounds.specs.Round.{Round, progress}
use Rattle.rr_desk.specs.Position.Position.{OnTable}
use Rattle.rr_shares.specs.Limits.Holdings.{Holdings, holdings_of, holdings_in}

-- the money of each party
abbrev pub Accounts : Type 0
Accounts = Party → ℤ

-- the money of each party, the holdings, the par of each corporation that has set one, and how far the stock rounds
-- have come
pub record Situation : Type 0 where
  pub money : Accounts
  pub holdings : Holdings
  pub pars : Corp → Option ℕ
  pub progress : Round

-- the situation by a table's book
abbrev pub situation_of : List Row → Book → Situation
situation_of rows book = record { money = balance book; holdings = holdings_of rows book; pars = par_of rows book; progress = progress book }

-- the situation by what runs along with the book
abbrev pub situation_in : List Row → OnTable → Situation
situation_in rows p = record {
  money = cash_of p.books;
  holdings = holdings_in rows p;
  pars = λ c. price_at rows (first_in p.market c);
  progress = p.rounds;
}
