-- The answers to queries, each from what its table keeps.
use Rattle.std.specs.Prelude.{◌≡◌, ◌⊎◌, ℕ, Bool, true, false, List, [], ◌∷◌, ◌++◌, Option, None, Some, Result, Ok, Err, MatchResult, codes, decimal, map, option_map, replicate, if◌then◌else◌}
use Rattle.std.specs.List.{flat_map}
use Rattle.std.specs.Fmt.{signed_decimal}
use Rattle.rr_roster.specs.declared.company.Corp.{Corp}
use Rattle.rr_roster.specs.declared.company.Kind.{Kind}
use Rattle.rr_roster.specs.Company.{corp_name, kind_name, kinds, private_name}
use Rattle.rr_market.specs.Order.{operating_order}
use Rattle.rr_kit.specs.declared.kit.Kit.{Kit}
use Rattle.rr_books.specs.declared.parties.Party.{Party}
use Rattle.rr_books.specs.declared.parties.Place.{Place}
use Rattle.rr_books.specs.Book.{Book, holder, iou, money, players, train_holder}
use Rattle.rr_books.specs.Opening.{certificate_limit}
use Rattle.rr_books.specs.declared.parties.Seat.{Seat}
use Rattle.rr_market.specs.declared.operations.turn.TurnStep.{TurnStep}
use Rattle.rr_market.specs.declared.operations.turn.TurnStep.TheVariants as S
use Rattle.rr_market.specs.Operations.Phases.{TrainHolders, phase}
use Rattle.rr_trains.specs.Places.{trains_at}
use Rattle.rr_game.specs.declared.due.Due.{Due}
use Rattle.rr_game.specs.declared.due.Due.TheVariants as D
use Rattle.rr_auction.specs.Rules.{asked}
use Rattle.rr_code.specs.declared.query.Account.{Account}
use Rattle.rr_code.specs.declared.query.Owner.{Owner}
use Rattle.rr_code.specs.declared.query.TrainHolder.{TrainHolder}
use Rattle.rr_code.specs.declared.query.Query.{Query}
use Rattle.rr_code.specs.declared.query.Query.TheVariants as Q
use Rattle.rr_moderator.specs.declared.fault.Fault.{Fault}
use Rattle.rr_moderator.specs.declared.fault.Fault.TheVariants as F
use Rattle.rr_moderator.specs.Answer.{answer_of, asked_words, owned, price_words}
use Rattle.rr_moderator.specs.Fault.{refusal_of}
use Rattle.rr_books.specs.declared.refusal.Refusal.TheVariants as G
use Rattle.rr_game.specs.Names.{owner_place, party_of, seat_of, trains_place}
use Rattle.rr_game.specs.Play.{play, players_of}
use Rattle.rr_game.specs.Queries.{due, holding, quote, worth}
use Rattle.rr_turns.specs.Turns.{ended_turns}
use Rattle.rr_game.specs.History.Playing.{ends_turn}
use Rattle.rr_game.specs.History.TurnEntries.{is_readable_turn, turn_entries}
use Rattle.rr_entries.specs.Words.{book_words, player_word}
use Rattle.rr_store.specs.World.{TableState, World, names, table_named}

-- the words of an answer, or why there are none
abbrev pub Answer : Type 0
Answer = Result (List (List ℕ)) Fault

-- the answer where it is asked of somebody, whom the table may lack
abbrev pub answer_of_named : Option (List (List ℕ)) → Answer
answer_of_named None = Err (F.Game G.NoSuchName)
answer_of_named (Some words) = Ok words

-- the answer where it is asked of a table, which the file may lack
abbrev pub answer_of_table : (TableState → Answer) → Option TableState → Answer
answer_of_table answer None = Err F.NoSuchTable
answer_of_table answer (Some t) = answer t

-- the book of a table
abbrev pub book_of : Kit → TableState → Book
book_of kit t = (play kit t.commands).book

-- the stamp of a table
abbrev pub stamp_answer : TableState → Answer
stamp_answer t = Ok (decimal t.stamp ∷ [])

-- the money of a party
abbrev pub cash_words : Kit → Book → Party → List (List ℕ)
cash_words kit book party = signed_decimal (money kit.roster book party) ∷ []

abbrev pub cash_answer : Kit → Account → TableState → Answer
cash_answer kit of t = answer_of_named (option_map (cash_words kit (book_of kit t)) (party_of (players_of t.commands) of))

-- how many certificates a player may hold
abbrev pub limit_answer : Kit → TableState → Answer
limit_answer kit t = Ok (decimal (certificate_limit (players (book_of kit t))) ∷ [])

-- the cheapest private that isn't sold, and its price
abbrev pub asked_answer : Kit → TableState → Answer
asked_answer kit t = Ok (asked_words (asked kit.roster (book_of kit t)))

-- the word for a step of a corporation's turn
abbrev pub step_word : TurnStep → List ℕ
step_word S.Lay = codes "lay"
step_word S.Station = codes "station"
step_word S.Run = codes "run"
step_word S.Pay = codes "pay"
step_word S.Train = codes "train"

-- who is due, and the step; or that the game is over
abbrev pub due_words : List (List ℕ) → Due → List (List ℕ)
due_words players (D.Turn seat) = player_word players seat ∷ codes "auction" ∷ []
due_words players (D.Raise seat) = player_word players seat ∷ codes "raise" ∷ []
due_words players (D.Par seat) = player_word players seat ∷ codes "par" ∷ []
due_words players (D.Stock seat) = player_word players seat ∷ codes "stock" ∷ []
due_words players (D.Operating corp step) = corp_name corp ∷ step_word step ∷ []
due_words players D.Over = codes "over" ∷ []

abbrev pub due_answer : Kit → TableState → Answer
due_answer kit t = Ok (due_words (players_of t.commands) (due kit (book_of kit t)))

-- the turns that have ended, and the least one to which the table can be taken back
abbrev pub turns_answer : Kit → TableState → Answer
turns_answer kit t = Ok (decimal (ended_turns (ends_turn kit) t.commands) ∷ decimal t.floor ∷ [])

-- the privates at a place
abbrev pub privates_words : Book → Place → List (List ℕ)
privates_words book place = map private_name (owned (holder book) place)

abbrev pub privates_answer : Kit → Owner → TableState → Answer
privates_answer kit of t = answer_of_named (option_map (privates_words (book_of kit t)) (owner_place (players_of t.commands) of))

-- how much of a corporation a player holds, in percent
abbrev pub holds_words : Book → Corp → Seat → List (List ℕ)
holds_words book corp seat = decimal (holding book corp seat) ∷ []

abbrev pub holds_answer : Kit → List ℕ → Corp → TableState → Answer
holds_answer kit player corp t = answer_of_named (option_map (holds_words (book_of kit t) corp) (seat_of (players_of t.commands) player))

-- the price of a corporation's shares
abbrev pub price_answer : Kit → Corp → TableState → Answer
price_answer kit corp t = Ok (price_words (quote kit.chart (book_of kit t) corp))

-- the corporations with a price, in the order in which they operate
abbrev pub order_answer : Kit → TableState → Answer
order_answer kit t = Ok (map corp_name (operating_order kit.chart (book_of kit t)))

-- the phase
abbrev pub phase_answer : Kit → TableState → Answer
phase_answer kit t = Ok (kind_name (phase (train_holder (book_of kit t))) ∷ [])

-- the trains at a place, a word for each, the smallest kind first
abbrev pub trains_of : TrainHolders → Place → Kind → List (List ℕ)
trains_of trains place kind = replicate (trains_at trains place kind) (kind_name kind)

abbrev pub trains_words : TrainHolders → Place → List (List ℕ)
trains_words trains place = flat_map (trains_of trains place) kinds

abbrev pub trains_answer : Kit → TrainHolder → TableState → Answer
trains_answer kit of t = Ok (trains_words (train_holder (book_of kit t)) (trains_place of))

-- what the bank owes
abbrev pub iou_answer : Kit → TableState → Answer
iou_answer kit t = Ok (decimal (iou kit.roster (book_of kit t)) ∷ [])

-- what a player's cash, shares and privates are worth
abbrev pub worth_words : Kit → Book → Seat → List (List ℕ)
worth_words kit book seat = signed_decimal (worth kit book seat) ∷ []

abbrev pub worth_answer : Kit → List ℕ → TableState → Answer
worth_answer kit player t = answer_of_named (option_map (worth_words kit (book_of kit t)) (seat_of (players_of t.commands) player))

-- the entries that the commands of a turn added
abbrev pub book_answer : Kit → ℕ → TableState → Answer
book_answer kit turn t =
    if is_readable_turn kit t turn then Ok (book_words (players_of t.commands) (turn_entries kit t.commands turn)) else Err F.TurnNotKept

-- the answer to a query
abbrev pub query_answer : Kit → World → Query → Answer
query_answer kit tables Q.Tables = Ok (names tables)
query_answer kit tables (Q.Stamp table) = answer_of_table stamp_answer (table_named tables table)
query_answer kit tables (Q.Turns table) = answer_of_table (turns_answer kit) (table_named tables table)
query_answer kit tables (Q.Due table) = answer_of_table (due_answer kit) (table_named tables table)
query_answer kit tables (Q.Cash table of) = answer_of_table (cash_answer kit of) (table_named tables table)
query_answer kit tables (Q.Limit table) = answer_of_table (limit_answer kit) (table_named tables table)
query_answer kit tables (Q.Asked table) = answer_of_table (asked_answer kit) (table_named tables table)
query_answer kit tables (Q.Privates table of) = answer_of_table (privates_answer kit of) (table_named tables table)
query_answer kit tables (Q.Holds table player corp) = answer_of_table (holds_answer kit player corp) (table_named tables table)
query_answer kit tables (Q.Price table corp) = answer_of_table (price_answer kit corp) (table_named tables table)
query_answer kit tables (Q.Order table) = answer_of_table (order_answer kit) (table_named tables table)
query_answer kit tables (Q.Phase table) = answer_of_table (phase_answer kit) (table_named tables table)
query_answer kit tables (Q.Trains table of) = answer_of_table (trains_answer kit of) (table_named tables table)
query_answer kit tables (Q.Iou table) = answer_of_table (iou_answer kit) (table_named tables table)
query_answer kit tables (Q.Worth table player) = answer_of_table (worth_answer kit player) (table_named tables table)
query_answer kit tables (Q.Book table turn) = answer_of_table (book_answer kit turn) (table_named tables table)

-- why there is no answer, if there is none
abbrev pub fault_of : Answer → Option Fault
fault_of (Ok words) = None
fault_of (Err fault) = Some fault

-- the reply with an answer, or with the refusal, and its LF
abbrev pub reply_of : Answer → List ℕ
reply_of (Ok words) = answer_of words ++ codes "\n"
reply_of (Err fault) = refusal_of fault

-- why a query is refused, if it is
abbrev pub query_verdict : Kit → World → Query → Option Fault
query_verdict kit tables query = fault_of (query_answer kit tables query)

-- the reply to a query, also to one that is refused
abbrev pub query_text : Kit → World → Query → List ℕ
query_text kit tables query = reply_of (query_answer kit tables query)

-- what a call that writes an answer, but for the LF, has given and written
abbrev pub Writes : {A : Type 0} → Answer → Result A Fault → List ℕ → Type 0
Writes answer result text = MatchResult result
    (λ _. (fault_of answer ≡ None) × (reply_of answer ≡ text ++ codes "\n"))
    (λ fault. fault_of answer ≡ Some fault)

-- the faults of a query that allocates: its own or, if it has an answer, `OutOfMemory`
abbrev pub MayRefuseBy : Answer → Fault → Type 0
MayRefuseBy answer fault = (fault_of answer ≡ Some fault) ⊎ ((fault_of answer ≡ None) × (fault ≡ F.OutOfMemory))

-- whether the answer to a query may need more memory: only that of `book` has no bound
abbrev pub allocates : Query → Bool
allocates (Q.Book table turn) = true
allocates query = false

-- the faults with which a query may be refused, by whether it allocates
abbrev pub MayRefuse : Bool → Answer → Fault → Type 0
MayRefuse true answer fault = MayRefuseBy answer fault
MayRefuse false answer fault = fault_of answer ≡ Some fault

-- what a query may come to: the text of its answer, or why there is none
abbrev pub MeetsQuery : Kit → World → Query → Result (List ℕ) Fault → Type 0
MeetsQuery kit tables query outcome = MatchResult outcome
    (λ text. (query_verdict kit tables query ≡ None) × (text ≡ query_text kit tables query))
    (λ fault. MayRefuse (allocates query) (query_answer kit tables query) fault)
