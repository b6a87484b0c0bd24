-- The refusals: their numbers and their words.
use Rattle.std.specs.Prelude.{ℕ, List, [], ◌++◌, codes, decimal}
use Rattle.rr_kit.specs.declared.fault.Fault as kit
use Rattle.rr_kit.specs.declared.fault.Fault.TheVariants as I
use Rattle.rr_kit.specs.Fault as kits
use Rattle.rr_books.specs.declared.refusal.Refusal.{Refusal}
use Rattle.rr_books.specs.declared.refusal.Refusal.TheVariants as G
use Rattle.rr_books.specs.Refusal.{clause_number}
use Rattle.rr_books.specs.Refusal as numbers
use Rattle.rr_pages.specs.Faults.{clause_of}
use Rattle.rr_code.specs.declared.fault.Fault as code
use Rattle.rr_code.specs.declared.fault.Fault.TheVariants as C
use Rattle.rr_game.specs.declared.history.fault.Fault as hist
use Rattle.rr_game.specs.declared.history.fault.Fault.TheVariants as H
use Rattle.rr_tables.specs.declared.records.fault.Fault as judge
use Rattle.rr_store.specs.declared.fault.Fault as store
use Rattle.rr_store.specs.declared.fault.Fault.TheVariants as T
use Rattle.rr_store.specs.Fault as stored
use Rattle.rr_search.specs.declared.fault.Fault as search
use Rattle.rr_search.specs.declared.fault.Fault.TheVariants as R
use Rattle.rr_serve.specs.declared.faults.Fault as serve
use Rattle.rr_serve.specs.declared.faults.Fault.TheVariants as S
use Rattle.rr_moderator.specs.declared.fault.Fault.{Fault}
use Rattle.rr_moderator.specs.declared.fault.Fault.TheVariants as F

-- the number that a reply gives
abbrev pub number_of : Fault → ℕ
number_of (F.Kit fault) = kits.number_of fault
number_of (F.Game fault) = numbers.number_of fault
number_of F.NoCertificate = 41
number_of (F.StaleStamp stamp) = 52
number_of F.TurnNotKept = 53
number_of F.TooManyCommands = 54
number_of F.MalformedLine = 55
number_of F.DeviceFailed = 60
number_of F.FileFull = 62
number_of (F.Damaged damage) = 63
number_of F.NotAStore = 64
number_of F.NotEmpty = 64
number_of F.OpenAgain = 65
number_of F.TooManyTables = 66
number_of F.LineTooLong = 67
number_of F.NoSuchTable = 68
number_of F.StreamFailed = 69
number_of F.OutOfMemory = 70

-- the words behind the number
abbrev pub kit_words : kit.Fault → List ℕ
kit_words (I.BadChart line word) = codes "bad chart"
kit_words I.BadRoster = codes "bad roster"
kit_words (I.RosterRule rule) = codes "roster rule"
kit_words (I.BadManifest line) = codes "bad manifest"
kit_words (I.BadBoard line) = codes "bad board"
kit_words I.OutOfMemory = codes "out of memory"

abbrev pub game_words : Refusal → List ℕ
game_words G.NoSuchName = codes "no such name"
game_words G.TooLittleCash = codes "too little cash"
game_words G.NotYourTurn = codes "not your turn"
game_words (G.BidTooLow least) = codes "bid too low"
game_words G.NotForSale = codes "not for sale"
game_words G.CashTiedUp = codes "cash tied up"
game_words G.CertificateLimit = codes "certificate limit"
game_words G.OverSixty = codes "over 60 percent"
game_words G.SoldThisRound = codes "sold this round"
game_words G.FirstStockRound = codes "first stock round"
game_words G.PoolOverHalf = codes "pool over 50 percent"
game_words G.SecondPurchase = codes "second buy"
game_words G.MustSellFirst = codes "must sell first"
game_words G.NotAPar = codes "not a par"
game_words G.ColourNotOpen = codes "colour not open"
game_words G.TileGone = codes "tile gone"
game_words G.NotAnUpgrade = codes "not an upgrade"
game_words G.NotReached = codes "not reached"
game_words G.BlockedHex = codes "blocked hex"
game_words G.NoSlot = codes "no slot"
game_words G.NoTokenLeft = codes "no token left"
game_words (G.IllegalSheet clause) = codes "illegal sheet"
game_words G.CertificateRefused = codes "certificate refused"
game_words G.WrongStep = codes "wrong step"
game_words G.TrainLimit = codes "train limit"
game_words G.NotOnSale = codes "not on sale"
game_words G.PriceOutOfBounds = codes "price out of bounds"
game_words G.MustDiscardFirst = codes "must discard first"
game_words G.MustOwnTrain = codes "must own a train"
game_words G.SaleNotNeeded = codes "sale not needed"
game_words G.PresidencyWouldChange = codes "presidency would change"
game_words G.NotBankrupt = codes "not bankrupt"
game_words G.GameOver = codes "game is over"
game_words G.OutOfMemory = codes "out of memory"

abbrev pub words_of : Fault → List ℕ
words_of (F.Kit fault) = kit_words fault
words_of (F.Game fault) = game_words fault
words_of F.NoCertificate = codes "no certificate found"
words_of (F.StaleStamp stamp) = codes "stale stamp"
words_of F.TurnNotKept = codes "turn not kept"
words_of F.TooManyCommands = codes "too many commands"
words_of F.MalformedLine = codes "malformed line"
words_of F.DeviceFailed = codes "device failed"
words_of F.FileFull = codes "file full"
words_of (F.Damaged damage) = codes "damaged"
words_of F.NotAStore = codes "not a store"
words_of F.NotEmpty = codes "not empty"
words_of F.OpenAgain = codes "open again"
words_of F.TooManyTables = codes "too many tables"
words_of F.LineTooLong = codes "line too long"
words_of F.NoSuchTable = codes "no such table"
words_of F.StreamFailed = codes "stream failed"
words_of F.OutOfMemory = codes "out of memory"

-- what follows the words: a line, a word, a rule, a bid, a clause or a stamp, each behind a space
abbrev pub kit_data : kit.Fault → List ℕ
kit_data (I.BadChart line word) = (codes " " ++ decimal line) ++ (codes " " ++ decimal word)
kit_data (I.RosterRule rule) = codes " " ++ decimal rule
kit_data (I.BadManifest line) = codes " " ++ decimal line
kit_data (I.BadBoard line) = codes " " ++ decimal line
kit_data _ = []

abbrev pub game_data : Refusal → List ℕ
game_data (G.BidTooLow least) = codes " " ++ decimal least
game_data (G.IllegalSheet clause) = codes " " ++ decimal (clause_number clause)
game_data _ = []

abbrev pub data_of : Fault → List ℕ
data_of (F.Kit fault) = kit_data fault
data_of (F.Game fault) = game_data fault
data_of (F.StaleStamp stamp) = codes " " ++ decimal stamp
data_of (F.Damaged damage) = codes " " ++ decimal (clause_of damage)
data_of _ = []

-- the reply that refuses, with its LF
abbrev pub refusal_of : Fault → List ℕ
refusal_of fault = codes "no " ++ decimal (number_of fault) ++ codes " " ++ words_of fault ++ data_of fault ++ codes "\n"

-- the refusals of the layers below, as those of the moderator
abbrev pub of_game : Refusal → Fault
of_game G.OutOfMemory = F.OutOfMemory
of_game fault = F.Game fault

abbrev pub of_code : code.Fault → Fault
of_code C.Malformed = F.MalformedLine
of_code C.OutOfMemory = F.OutOfMemory

abbrev pub of_store : store.Fault → Fault
of_store (T.Kit fault) = F.Kit fault
of_store (T.Game fault) = F.Game fault
of_store (T.StaleStamp stamp) = F.StaleStamp stamp
of_store T.TurnNotKept = F.TurnNotKept
of_store T.TooManyCommands = F.TooManyCommands
of_store T.DeviceFailed = F.DeviceFailed
of_store T.FileFull = F.FileFull
of_store (T.Damaged damage) = F.Damaged damage
of_store T.NotAStore = F.NotAStore
of_store T.NotEmpty = F.NotEmpty
of_store T.OpenAgain = F.OpenAgain
of_store T.TooManyTables = F.TooManyTables
of_store T.NoSuchTable = F.NoSuchTable
of_store T.OutOfMemory = F.OutOfMemory

-- a request that isn't lawful at its table
abbrev pub of_rules : judge.Fault → Fault
of_rules fault = of_store (stored.of_rules fault)

-- why the entries of a turn can't be read: that the turn isn't kept or, as nothing else is left, that memory ran out
abbrev pub of_history : hist.Fault → Fault
of_history H.TurnNotKept = F.TurnNotKept
of_history fault = F.OutOfMemory

abbrev pub of_search : search.Fault → Fault
of_search R.NoCertificate = F.NoCertificate
of_search R.OutOfMemory = F.OutOfMemory

abbrev pub of_serve : serve.Fault → Fault
of_serve S.DeviceFailed = F.DeviceFailed
of_serve S.StreamFailed = F.StreamFailed
