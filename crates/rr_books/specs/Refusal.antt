-- The refusals of commands, and the clauses that a sheet breaks, by the numbers that replies give them.
use Rattle.std.specs.Prelude.{ℕ}
use Rattle.rr_books.specs.declared.clause.Clause.{Clause}
use Rattle.rr_books.specs.declared.clause.Clause.TheVariants as C
use Rattle.rr_books.specs.declared.refusal.Refusal.{Refusal}
use Rattle.rr_books.specs.declared.refusal.Refusal.TheVariants as R

-- the clause's number in a reply
abbrev pub clause_number : Clause → ℕ
clause_number C.WrongWord = 1
clause_number C.NoWalk = 2
clause_number C.NodeTwice = 3
clause_number C.TerminalInside = 4
clause_number C.NoToken = 5
clause_number C.TooManyCentres = 6
clause_number C.SharedHexside = 7

-- the number that a reply gives
abbrev pub number_of : Refusal → ℕ
number_of R.NoSuchName = 1
number_of R.TooLittleCash = 2
number_of R.NotYourTurn = 20
number_of (R.BidTooLow least) = 21
number_of R.NotForSale = 22
number_of R.CashTiedUp = 23
number_of R.CertificateLimit = 24
number_of R.OverSixty = 25
number_of R.SoldThisRound = 26
number_of R.FirstStockRound = 27
number_of R.PoolOverHalf = 28
number_of R.SecondPurchase = 29
number_of R.MustSellFirst = 30
number_of R.NotAPar = 31
number_of R.ColourNotOpen = 32
number_of R.TileGone = 33
number_of R.NotAnUpgrade = 34
number_of R.NotReached = 35
number_of R.BlockedHex = 36
number_of R.NoSlot = 37
number_of R.NoTokenLeft = 38
number_of (R.IllegalSheet clause) = 39
number_of R.CertificateRefused = 40
number_of R.WrongStep = 42
number_of R.TrainLimit = 43
number_of R.NotOnSale = 44
number_of R.PriceOutOfBounds = 45
number_of R.MustDiscardFirst = 46
number_of R.MustOwnTrain = 47
number_of R.SaleNotNeeded = 48
number_of R.PresidencyWouldChange = 49
number_of R.NotBankrupt = 50
number_of R.GameOver = 51
number_of R.OutOfMemory = 70
