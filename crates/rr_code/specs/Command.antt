-- The commands of a table, and the one text of each.
use Rattle.std.specs.Prelude.{◌≡◌, ℕ, List, ◌^◌, ◌<◌, decimal, [], ◌∷◌, codes, Result, Ok, MatchResult}
use Rattle.rr_words.specs.Name.{IsPlayerName}
use Rattle.rr_words.specs.Line.{line_of}
use Rattle.rr_roster.specs.Company.{corp_name, private_name}
use Rattle.rr_orders.specs.Order as orders
use Rattle.rr_code.specs.Players.{ArePlayers}
use Rattle.rr_code.specs.declared.command.Command.{Command}
use Rattle.rr_code.specs.declared.command.Command.TheVariants.{Open, BuyPrivate, Bid, Pass, Par, BuyShare, Sell, Swap, Done, Order}
use Rattle.rr_roster.specs.declared.sources.ShareSource.{ShareSource}
use Rattle.rr_roster.specs.declared.sources.ShareSource.TheVariants.{Offer, Pool}
use Rattle.rr_code.specs.declared.fault.Fault.{Fault}
use Rattle.rr_code.specs.declared.fault.Fault.TheVariants.{Malformed}

-- the word of the place where a share is bought
abbrev pub source_word : ShareSource → List ℕ
source_word Offer = codes "offer"
source_word Pool = codes "pool"

-- the words of a command
abbrev pub spelling : Command → List (List ℕ)
spelling (Open players) = codes "open" ∷ players
spelling (BuyPrivate player) = codes "buy" ∷ player ∷ []
spelling (Bid player private amount) = codes "bid" ∷ player ∷ private_name private ∷ decimal amount ∷ []
spelling (Pass player) = codes "pass" ∷ player ∷ []
spelling (Par player corp price) = codes "par" ∷ player ∷ corp_name corp ∷ decimal price ∷ []
spelling (BuyShare player corp source) = codes "buy" ∷ player ∷ corp_name corp ∷ source_word source ∷ []
spelling (Sell player corp count) = codes "sell" ∷ player ∷ corp_name corp ∷ decimal count ∷ []
spelling (Swap player source) = codes "swap" ∷ player ∷ source_word source ∷ []
spelling (Done player) = codes "done" ∷ player ∷ []
spelling (Order order) = orders.spelling order

-- its parts are what they stand for
abbrev pub IsCommand : Command → Type 0
IsCommand (Open players) = ArePlayers players
IsCommand (BuyPrivate player) = IsPlayerName player
IsCommand (Bid player private amount) = IsPlayerName player × (amount < 10 ^ 10)
IsCommand (Pass player) = IsPlayerName player
IsCommand (Par player corp price) = IsPlayerName player × (price < 10 ^ 10)
IsCommand (BuyShare player corp source) = IsPlayerName player
IsCommand (Sell player corp count) = IsPlayerName player × (count < 10 ^ 10)
IsCommand (Swap player source) = IsPlayerName player
IsCommand (Done player) = IsPlayerName player
IsCommand (Order order) = orders.IsOrder order

-- the text of a command: its words with one space between each two
abbrev pub text : Command → List ℕ
text c = line_of (spelling c)

-- the bytes are the command's text
pub record SpellsCommand (bytes : List ℕ) (c : Command) : Type 0 where
  pub command : IsCommand c
  pub spelled : bytes ≡ text c

-- the answer to a reader of a command: just the command that the bytes spell, or else malformed
pub record IsReadAs (bytes : List ℕ) (answer : Result Command Fault) : Type 0 where
  pub found : MatchResult answer (λ c. SpellsCommand bytes c) (λ fault. fault ≡ Malformed)
  pub only : (c : Command) → SpellsCommand bytes c → answer ≡ Ok c
