-- What is done in a corporation's turn, and the one text of each.
use Rattle.std.specs.Prelude.{◌≡◌, ℕ, List, ◌^◌, ◌<◌, ◌≤◌, decimal, [], ◌∷◌, ◌++◌, codes, Option, Some, None}
use Rattle.rr_words.specs.Name.{IsHexName, IsPlayerName}
use Rattle.rr_words.specs.Line.{line_of}
use Rattle.rr_roster.specs.Company.{corp_name, private_name, kind_name}
use Rattle.rr_roster.specs.declared.company.Corp.{Corp}
use Rattle.rr_orders.specs.Texts.{parts, IsSheetText, IsCertificateText}
use Rattle.rr_orders.specs.declared.order.Order.{Order}
use Rattle.rr_orders.specs.declared.order.Order.TheVariants.{Lay, Station, Run, RunBest, PayOut, Hold, BuyTrain, BuyTrainFrom, Trade, Discard, TakePrivate, End, Force, Raise, Bankrupt}
use Rattle.rr_roster.specs.declared.sources.TrainSource.{TrainSource}
use Rattle.rr_roster.specs.declared.sources.TrainSource.TheVariants.{Bank, Pool}

-- the word of the place where a train is bought
abbrev pub source_word : TrainSource → List ℕ
source_word Bank = codes "bank"
source_word Pool = codes "pool"

-- the words of an order
abbrev pub spelling : Order → List (List ℕ)
spelling (Lay corp hex tile turn) = codes "lay" ∷ corp_name corp ∷ hex ∷ decimal tile ∷ decimal turn ∷ []
spelling (Station corp hex centre) = codes "station" ∷ corp_name corp ∷ hex ∷ decimal centre ∷ []
spelling (Run corp sheet) = codes "run" ∷ corp_name corp ∷ parts sheet
spelling (RunBest corp sheet certificate) = codes "run" ∷ corp_name corp ∷ (parts sheet ++ codes "best" ∷ parts certificate)
spelling (PayOut corp) = codes "pay" ∷ corp_name corp ∷ []
spelling (Hold corp) = codes "hold" ∷ corp_name corp ∷ []
spelling (BuyTrain corp kind source) = codes "train" ∷ corp_name corp ∷ kind_name kind ∷ source_word source ∷ []
spelling (BuyTrainFrom corp kind seller price buyer_president seller_president) =
    codes "train" ∷ corp_name corp ∷ kind_name kind ∷ corp_name seller ∷ decimal price ∷ buyer_president ∷ seller_president ∷ []
spelling (Trade corp kind) = codes "trade" ∷ corp_name corp ∷ kind_name kind ∷ []
spelling (Discard corp kind) = codes "drop" ∷ corp_name corp ∷ kind_name kind ∷ []
spelling (TakePrivate corp private price) = codes "private" ∷ corp_name corp ∷ private_name private ∷ decimal price ∷ []
spelling (End corp) = codes "end" ∷ corp_name corp ∷ []
spelling (Force corp) = codes "force" ∷ corp_name corp ∷ []
spelling (Raise player corp count) = codes "raise" ∷ player ∷ corp_name corp ∷ decimal count ∷ []
spelling (Bankrupt player) = codes "bankrupt" ∷ player ∷ []

-- its parts are what they stand for
abbrev pub IsOrder : Order → Type 0
IsOrder (Lay corp hex tile turn) = IsHexName hex × (1 ≤ tile) × (tile ≤ 999) × (turn ≤ 5)
IsOrder (Station corp hex centre) = IsHexName hex × (centre < 10 ^ 10)
IsOrder (Run corp sheet) = IsSheetText sheet
IsOrder (RunBest corp sheet certificate) = IsSheetText sheet × IsCertificateText certificate
IsOrder (PayOut corp) = Unit {0}
IsOrder (Hold corp) = Unit {0}
IsOrder (BuyTrain corp kind source) = Unit {0}
IsOrder (BuyTrainFrom corp kind seller price buyer_president seller_president) =
    (price < 10 ^ 10) × IsPlayerName buyer_president × IsPlayerName seller_president
IsOrder (Trade corp kind) = Unit {0}
IsOrder (Discard corp kind) = Unit {0}
IsOrder (TakePrivate corp private price) = price < 10 ^ 10
IsOrder (End corp) = Unit {0}
IsOrder (Force corp) = Unit {0}
IsOrder (Raise player corp count) = IsPlayerName player × (count < 10 ^ 10)
IsOrder (Bankrupt player) = IsPlayerName player

-- the corporation that does it: a player raises money, and is bankrupt
abbrev pub corp_in : Order → Option Corp
corp_in (Lay corp hex tile turn) = Some corp
corp_in (Station corp hex centre) = Some corp
corp_in (Run corp sheet) = Some corp
corp_in (RunBest corp sheet certificate) = Some corp
corp_in (PayOut corp) = Some corp
corp_in (Hold corp) = Some corp
corp_in (BuyTrain corp kind source) = Some corp
corp_in (BuyTrainFrom corp kind seller price buyer_president seller_president) = Some corp
corp_in (Trade corp kind) = Some corp
corp_in (Discard corp kind) = Some corp
corp_in (TakePrivate corp private price) = Some corp
corp_in (End corp) = Some corp
corp_in (Force corp) = Some corp
corp_in (Raise player corp count) = None
corp_in (Bankrupt player) = None

-- the text of an order: its words with one space between each two
abbrev pub text : Order → List ℕ
text order = line_of (spelling order)

-- the bytes are the order's text
pub record SpellsOrder (bytes : List ℕ) (order : Order) : Type 0 where
  pub is_order : IsOrder order
  pub spelled : bytes ≡ text order
