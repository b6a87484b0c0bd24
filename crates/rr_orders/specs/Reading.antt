-- What the words of an order are read as, form by form.
use Rattle.std.specs.Prelude.{ℕ, List, [], ◌∷◌, Option, Some, None, option_map, option_and_then, bytes_eq, codes, if◌then◌else◌}
use Rattle.std.specs.List.{find}
use Rattle.rr_words.specs.Name.{player_name_of, hex_name_of}
use Rattle.rr_words.specs.Numeral.{number_of, small_number_of}
use Rattle.rr_roster.specs.Company.{kind_name, kinds}
use Rattle.rr_roster.specs.declared.company.Corp.{Corp}
use Rattle.rr_roster.specs.declared.company.Kind.{Kind}
use Rattle.rr_orders.specs.Scan.Company.{corp_of, private_of}
use Rattle.rr_orders.specs.Texts.{sheet_text, certificate_text, cut_at_best}
use Rattle.rr_orders.specs.declared.order.Order.{Order}
use Rattle.rr_orders.specs.declared.order.Order.TheVariants.{Lay, Station, Run, RunBest, PayOut, Hold, BuyTrain, BuyTrainFrom, Trade, Discard, TakePrivate, End, Force, Raise, Bankrupt}
use Rattle.rr_roster.specs.declared.sources.TrainSource.{TrainSource}
use Rattle.rr_roster.specs.declared.sources.TrainSource.TheVariants.{Bank, Pool}

-- the kind of train that a word names
abbrev pub kind_of : List ℕ → Option Kind
kind_of word = find (λ kind. bytes_eq word (kind_name kind)) kinds

-- the place that a word names
abbrev pub source_of : List ℕ → Option TrainSource
source_of word =
    if bytes_eq word (codes "bank") then Some Bank else
    if bytes_eq word (codes "pool") then Some Pool else
    None

-- behind `lay`: a corporation, a hex, a tile's number from 1 to 999 and sixths of a turn from 0 to 5
abbrev pub read_lay : List (List ℕ) → Option Order
read_lay (corp ∷ hex ∷ tile ∷ turn ∷ []) =
    option_and_then (λ c. option_and_then (λ h. option_and_then (λ t. option_map (Lay c h t) (small_number_of turn 0 5)) (small_number_of tile 1 999)) (hex_name_of hex)) (corp_of corp)
read_lay _ = None

-- behind `station`: a corporation, a hex and a centre's number
abbrev pub read_station : List (List ℕ) → Option Order
read_station (corp ∷ hex ∷ centre ∷ []) =
    option_and_then (λ c. option_and_then (λ h. option_map (Station c h) (number_of centre)) (hex_name_of hex)) (corp_of corp)
read_station _ = None

-- behind `run` and a corporation: a sheet alone, or a sheet, `best` and a certificate
abbrev pub read_sheets : Corp → List (List ℕ) → Option (List (List ℕ) × List (List ℕ)) → Option Order
read_sheets corp words None = option_map (Run corp) (sheet_text words)
read_sheets corp words (Some cut) = option_and_then (λ sheet. option_map (RunBest corp sheet) (certificate_text cut.1)) (sheet_text cut.0)

abbrev pub read_run : List (List ℕ) → Option Order
read_run [] = None
read_run (corp ∷ words) = option_and_then (λ c. read_sheets c words (cut_at_best words)) (corp_of corp)

-- behind `pay`, `hold`, `end` and `force`: a corporation
abbrev pub read_alone : (Corp → Order) → List (List ℕ) → Option Order
read_alone order (corp ∷ []) = option_map order (corp_of corp)
read_alone order _ = None

-- behind `trade` and `drop`: a corporation and a kind of train
abbrev pub read_kind : (Corp → Kind → Order) → List (List ℕ) → Option Order
read_kind order (corp ∷ kind ∷ []) = option_and_then (λ c. option_map (order c) (kind_of kind)) (corp_of corp)
read_kind order _ = None

-- behind `train`: a corporation, a kind, and a place, or a corporation, a number and both presidents
abbrev pub read_train : List (List ℕ) → Option Order
read_train (corp ∷ kind ∷ source ∷ []) =
    option_and_then (λ c. option_and_then (λ k. option_map (BuyTrain c k) (source_of source)) (kind_of kind)) (corp_of corp)
read_train (corp ∷ kind ∷ seller ∷ price ∷ buyer ∷ other ∷ []) =
    option_and_then (λ c. option_and_then (λ k. option_and_then (λ s. option_and_then (λ n. option_and_then (λ b. option_map (BuyTrainFrom c k s n b) (player_name_of other)) (player_name_of buyer)) (number_of price)) (corp_of seller)) (kind_of kind)) (corp_of corp)
read_train _ = None

-- behind `private`: a corporation, a private and a number
abbrev pub read_private : List (List ℕ) → Option Order
read_private (corp ∷ private ∷ price ∷ []) =
    option_and_then (λ c. option_and_then (λ p. option_map (TakePrivate c p) (number_of price)) (private_of private)) (corp_of corp)
read_private _ = None

-- behind `raise`: a player, a corporation and a number
abbrev pub read_raise : List (List ℕ) → Option Order
read_raise (player ∷ corp ∷ count ∷ []) =
    option_and_then (λ s. option_and_then (λ c. option_map (Raise s c) (number_of count)) (corp_of corp)) (player_name_of player)
read_raise _ = None

-- behind `bankrupt`: a player
abbrev pub read_bankrupt : List (List ℕ) → Option Order
read_bankrupt (player ∷ []) = option_map Bankrupt (player_name_of player)
read_bankrupt _ = None

-- an order's words
abbrev pub read_order : List (List ℕ) → Option Order
read_order [] = None
read_order (head ∷ rest) =
    if bytes_eq head (codes "lay") then read_lay rest else
    if bytes_eq head (codes "station") then read_station rest else
    if bytes_eq head (codes "run") then read_run rest else
    if bytes_eq head (codes "pay") then read_alone PayOut rest else
    if bytes_eq head (codes "hold") then read_alone Hold rest else
    if bytes_eq head (codes "train") then read_train rest else
    if bytes_eq head (codes "trade") then read_kind Trade rest else
    if bytes_eq head (codes "drop") then read_kind Discard rest else
    if bytes_eq head (codes "private") then read_private rest else
    if bytes_eq head (codes "end") then read_alone End rest else
    if bytes_eq head (codes "force") then read_alone Force rest else
    if bytes_eq head (codes "raise") then read_raise rest else
    if bytes_eq head (codes "bankrupt") then read_bankrupt rest else
    None
