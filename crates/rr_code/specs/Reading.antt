-- What the words of a request are read as, form by form.
use Rattle.std.specs.Prelude.{ℕ, List, [], ◌∷◌, Option, Some, None, option_map, option_and_then, bytes_eq, codes, if◌then◌else◌}
use Rattle.rr_words.specs.Name.{player_name_of, table_name_of}
use Rattle.rr_words.specs.Numeral.{number_of}
use Rattle.rr_turns.specs.declared.request.Request.{Request}
use Rattle.rr_turns.specs.declared.request.Request.TheVariants.{Play, Back, Forget}
use Rattle.rr_orders.specs.Scan.Company.{corp_of, private_of}
use Rattle.rr_orders.specs.Reading.{read_order}
use Rattle.rr_code.specs.Players.{are_players}
use Rattle.rr_roster.specs.declared.sources.ShareSource.{ShareSource}
use Rattle.rr_roster.specs.declared.sources.ShareSource.TheVariants.{Offer, Pool}
use Rattle.rr_code.specs.declared.command.Command.{Command}
use Rattle.rr_code.specs.declared.command.Command.TheVariants.{Open, BuyPrivate, Bid, Pass, Par, BuyShare, Sell, Swap, Done, Order}

-- the place that a word names
abbrev pub source_of : List ℕ → Option ShareSource
source_of word =
    if bytes_eq word (codes "offer") then Some Offer else
    if bytes_eq word (codes "pool") then Some Pool else
    None

-- behind `open`: the players
abbrev pub read_open : List (List ℕ) → Option Command
read_open names = if are_players names then Some (Open names) else None

-- behind `buy`: a player alone, or a player, a corporation and a place
abbrev pub read_buy : List (List ℕ) → Option Command
read_buy (player ∷ []) = option_map BuyPrivate (player_name_of player)
read_buy (player ∷ corp ∷ source ∷ []) =
    option_and_then (λ s. option_and_then (λ c. option_map (BuyShare s c) (source_of source)) (corp_of corp)) (player_name_of player)
read_buy _ = None

-- behind `bid`: a player, a private and a number
abbrev pub read_bid : List (List ℕ) → Option Command
read_bid (player ∷ private ∷ amount ∷ []) =
    option_and_then (λ s. option_and_then (λ p. option_map (Bid s p) (number_of amount)) (private_of private)) (player_name_of player)
read_bid _ = None

-- behind `pass`: a player
abbrev pub read_pass : List (List ℕ) → Option Command
read_pass (player ∷ []) = option_map Pass (player_name_of player)
read_pass _ = None

-- behind `par`: a player, a corporation and a number
abbrev pub read_par : List (List ℕ) → Option Command
read_par (player ∷ corp ∷ price ∷ []) =
    option_and_then (λ s. option_and_then (λ c. option_map (Par s c) (number_of price)) (corp_of corp)) (player_name_of player)
read_par _ = None

-- behind `sell`: a player, a corporation and a number
abbrev pub read_sell : List (List ℕ) → Option Command
read_sell (player ∷ corp ∷ count ∷ []) =
    option_and_then (λ s. option_and_then (λ c. option_map (Sell s c) (number_of count)) (corp_of corp)) (player_name_of player)
read_sell _ = None

-- behind `swap`: a player and a place
abbrev pub read_swap : List (List ℕ) → Option Command
read_swap (player ∷ source ∷ []) = option_and_then (λ s. option_map (Swap s) (source_of source)) (player_name_of player)
read_swap _ = None

-- behind `done`: a player
abbrev pub read_done : List (List ℕ) → Option Command
read_done (player ∷ []) = option_map Done (player_name_of player)
read_done _ = None

-- a command's words: where the first names no command of the auction or of a stock round, those of an order
abbrev pub read_words : List (List ℕ) → Option Command
read_words [] = None
read_words (head ∷ rest) =
    if bytes_eq head (codes "open") then read_open rest else
    if bytes_eq head (codes "buy") then read_buy rest else
    if bytes_eq head (codes "bid") then read_bid rest else
    if bytes_eq head (codes "pass") then read_pass rest else
    if bytes_eq head (codes "par") then read_par rest else
    if bytes_eq head (codes "sell") then read_sell rest else
    if bytes_eq head (codes "swap") then read_swap rest else
    if bytes_eq head (codes "done") then read_done rest else
    option_map Order (read_order (head ∷ rest))

-- behind `back` and `forget`: a number
abbrev pub read_back : List (List ℕ) → Option (Request Command)
read_back (turn ∷ []) = option_map Back (number_of turn)
read_back _ = None

abbrev pub read_forget : List (List ℕ) → Option (Request Command)
read_forget (turn ∷ []) = option_map Forget (number_of turn)
read_forget _ = None

-- a request's words
abbrev pub read_request_words : List (List ℕ) → Option (Request Command)
read_request_words [] = None
read_request_words (head ∷ rest) =
    if bytes_eq head (codes "back") then read_back rest else
    if bytes_eq head (codes "forget") then read_forget rest else
    option_map Play (read_words (head ∷ rest))

-- a record's words
abbrev pub read_record_words : List (List ℕ) → Option (List ℕ × Request Command)
read_record_words [] = None
read_record_words (table ∷ rest) =
    option_and_then (λ name. option_map (λ r. (name, r)) (read_request_words rest)) (table_name_of table)
