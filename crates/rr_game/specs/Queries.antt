-- What a table's book says of its game.
use Rattle.std.specs.Prelude.{ℕ, ◌+◌, ◌*◌, ◌/◌, ℤ, pos, ◌+ℤ◌, Bool, true, false, List, Option, None, Some, option_and_then, option_map, unwrap_or, sum_by, if◌then◌else◌}
use Rattle.rr_roster.specs.declared.company.Corp.{Corp}
use Rattle.rr_roster.specs.declared.company.Private.{Private}
use Rattle.rr_roster.specs.Company.{corps, privates}
use Rattle.rr_roster.specs.Terms.{Terms, face_of}
use Rattle.rr_roster.specs.Chart.Chart.{Row}
use Rattle.rr_books.specs.declared.entries.Cell.{Cell}
use Rattle.rr_books.specs.declared.parties.Seat.{Seat}
use Rattle.rr_books.specs.declared.certificates.Cert.TheVariants as C
use Rattle.rr_books.specs.declared.parties.Party.{Party}
use Rattle.rr_books.specs.declared.parties.Party.TheVariants as P
use Rattle.rr_books.specs.declared.parties.Place.TheVariants as L
use Rattle.rr_books.specs.Book.{Book, balance, holder}
use Rattle.rr_books.specs.Shares.{Holders, is_at, share}
use Rattle.rr_books.specs.State.{cash_of, holder_in}
use Rattle.rr_kit.specs.declared.kit.Kit.{Kit}
use Rattle.rr_auction.specs.declared.due.Due as auction
use Rattle.rr_auction.specs.declared.due.Due.TheVariants as A
use Rattle.rr_auction.specs.Rules.{due as auction_due}
use Rattle.rr_market.specs.Marks.{mark_of, price_at, price_of}
use Rattle.rr_market.specs.State.{cell_in}
use Rattle.rr_desk.specs.Position.Position.{OnTable}
use Rattle.rr_rounds.specs.Round as rounds
use Rattle.rr_market.specs.declared.operations.turn.Stage.{Stage}
use Rattle.rr_market.specs.declared.operations.turn.Stage.TheVariants as G
use Rattle.rr_market.specs.declared.operations.turn.TurnStep.{TurnStep}
use Rattle.rr_market.specs.Operations.Due as operations
use Rattle.rr_market.specs.Operations.Progress.{progress}
use Rattle.rr_rules.specs.Judging.{game_is_over, stage}
use Rattle.rr_game.specs.declared.due.Due.{Due}
use Rattle.rr_game.specs.declared.due.Due.TheVariants as D

-- what the auction waits for
abbrev pub due_in_auction : auction.Due → Due
due_in_auction (A.Turn seat) = D.Turn seat
due_in_auction (A.Raise seat) = D.Raise seat
due_in_auction (A.Par seat) = D.Par seat
due_in_auction (A.Stock seat) = D.Stock seat

-- the corporation that has its turn, at the step of it; without one the game is over
abbrev pub due_in_operating_round : Option Corp → TurnStep → Due
due_in_operating_round None step = D.Over
due_in_operating_round (Some c) step = D.Operating c step

-- what a game waits for that isn't over
abbrev pub due_at : Stage → List Row → Book → Due
due_at G.Auction rows book = due_in_auction (auction_due book)
due_at G.Stock rows book = D.Stock (rounds.progress book).turn
due_at G.Operating rows book = due_in_operating_round (operations.due rows book) (progress book).step

-- what the game waits for
abbrev pub due : Kit → Book → Due
due kit book = if game_is_over kit book then D.Over else due_at (stage book) kit.chart book

-- the auction waits for the B&O's par
abbrev pub is_par : auction.Due → Bool
is_par (A.Par seat) = true
is_par _ = false

abbrev pub owes_par : Book → Bool
owes_par book = is_par (auction_due book)

-- how much of a corporation a seat holds, in percent
abbrev pub holding : Book → Corp → Seat → ℕ
holding book c s = share (holder book) (L.Seat s) c

-- the price of a corporation's shares, and the cell of its token, if the chart has that cell
abbrev pub quote_at : List Row → Cell → Option (ℕ × Cell)
quote_at rows cell = option_map (λ price. (price, cell)) (price_at rows (Some cell))

abbrev pub quote : List Row → Book → Corp → Option (ℕ × Cell)
quote rows book c = option_and_then (quote_at rows) (mark_of book c)

-- who has how much money and which certificates, and what a share of each corporation is worth
pub record Assets : Type 0 where
  pub money : Party → ℤ
  pub holders : Holders
  pub prices : Corp → Option ℕ

-- what a seat's shares of a corporation are worth at its price, which is that of 10%: nothing where it has none
abbrev pub shares_value : Assets → Seat → Corp → ℕ
shares_value a s c = share a.holders (L.Seat s) c * unwrap_or (a.prices c) 0 / 10

-- the face of a private, if the seat has it
abbrev pub private_value : Terms → Assets → Seat → Private → ℕ
private_value roster a s p = if is_at (a.holders (C.Private p)) (L.Seat s) then face_of roster p else 0

-- a seat's cash, its shares and its privates together
abbrev pub worth_by : Terms → Assets → Seat → ℤ
worth_by roster a s = a.money (P.Seat s) +ℤ pos (sum_by (shares_value a s) corps + sum_by (private_value roster a s) privates)

-- these by the book, and by what runs along with it
abbrev pub assets : List Row → Book → Assets
assets rows book = record { money = balance book; holders = holder book; prices = price_of rows book }

abbrev pub assets_in : List Row → OnTable → Assets
assets_in rows p = record { money = cash_of p.books; holders = holder_in p.books; prices = λ c. price_at rows (cell_in p.market c) }

-- what a seat is worth
abbrev pub worth : Kit → Book → Seat → ℤ
worth kit book s = worth_by kit.roster (assets kit.chart book) s
