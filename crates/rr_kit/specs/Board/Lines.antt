-- How a board is read from the words of its lines.
use Rattle.std.specs.Prelude.{ℕ, List, [], ◌∷◌, ◌++◌, if◌then◌else◌, Option, None, Some, option_map, option_and_then, bytes_eq, codes}
use Rattle.rr_words.specs.Name.{hex_name_of}
use Rattle.rr_words.specs.Numeral.{small_number_of}
use Rattle.rr_roster.specs.declared.company.Corp.{Corp}
use Rattle.rr_roster.specs.declared.company.Private.{Private}
use Rattle.rr_tiles.specs.Each.{added}
use Rattle.rr_tiles.specs.Reading.{tile_of}
use Rattle.rr_kit.specs.declared.board.hex.TheConstants.{GREATEST_CENTRE}
use Rattle.rr_kit.specs.declared.board.hex.Place.{Place}
use Rattle.rr_kit.specs.declared.board.hex.Colour.{Colour}
use Rattle.rr_kit.specs.declared.board.hex.Hex.{Hex}
use Rattle.rr_kit.specs.declared.board.hex.Home.{Home}
use Rattle.rr_kit.specs.Board.Plan.{Plan, bare, hex_named, may_take_hex, slots_at, may_take_home}
use Rattle.rr_kit.specs.Board.Words.{place_of, colour_of, cost_and_tile, corp_of, private_of}

abbrev pub hex_with : List ℕ → Place → Colour → ℕ × List (List ℕ) → Option Hex
hex_with name place colour more =
    option_map (λ tile. record { name = name; place = place; colour = colour; cost = more.0; tile = tile }) (tile_of more.1)

-- the hex that these words and those behind them spell
abbrev pub hex_of : List ℕ → List ℕ → List ℕ → List (List ℕ) → Option Hex
hex_of name place colour rest =
    option_and_then (λ n. option_and_then (λ p. option_and_then (λ c. option_and_then (hex_with n p c) (cost_and_tile rest)) (colour_of colour)) (place_of place)) (hex_name_of name)

abbrev pub with_hex : Plan → Hex → Option Plan
with_hex plan hex =
    if may_take_hex plan.hexes hex then Some (record { hexes = plan.hexes ++ hex ∷ []; homes = plan.homes; blocks = plan.blocks })
    else None

-- the board with the hex of a line `hex <name> <q>,<r> <colour> [cost=N] <tile text>` more
abbrev pub add_hex : Plan → List (List ℕ) → Option Plan
add_hex plan [] = None
add_hex plan (name ∷ []) = None
add_hex plan (name ∷ place ∷ []) = None
add_hex plan (name ∷ place ∷ colour ∷ rest) = option_and_then (with_hex plan) (hex_of name place colour rest)

abbrev pub with_home : Plan → Home → ℕ → Option Plan
with_home plan home slots =
    if may_take_home plan.homes home slots then Some (record { hexes = plan.hexes; homes = plan.homes ++ home ∷ []; blocks = plan.blocks })
    else None

abbrev pub home_in : Plan → Corp → ℕ → Hex → Option Plan
home_in plan corp centre hex =
    option_and_then (with_home plan (record { corp = corp; hex = hex.name; centre = centre })) (slots_at hex.tile.parts centre)

-- the board with the home that these words spell more
abbrev pub home_of : Plan → List ℕ → List ℕ → List ℕ → Option Plan
home_of plan corp hex centre =
    option_and_then (λ c. option_and_then (λ n. option_and_then (home_in plan c n) (hex_named plan.hexes hex)) (small_number_of centre 1 GREATEST_CENTRE)) (corp_of corp)

-- the board with the home of a line `home <corporation> <hex> <centre>` more
abbrev pub add_home : Plan → List (List ℕ) → Option Plan
add_home plan [] = None
add_home plan (corp ∷ []) = None
add_home plan (corp ∷ hex ∷ []) = None
add_home plan (corp ∷ hex ∷ centre ∷ []) = home_of plan corp hex centre
add_home plan (corp ∷ hex ∷ centre ∷ more ∷ rest) = None

abbrev pub block_in : Plan → Private → Hex → Plan
block_in plan private hex = record { hexes = plan.hexes; homes = plan.homes; blocks = plan.blocks ++ record { private = private; hex = hex.name } ∷ [] }

-- the board with the blocked hex that these words spell more
abbrev pub block_of : Plan → List ℕ → List ℕ → Option Plan
block_of plan private hex = option_and_then (λ p. option_map (block_in plan p) (hex_named plan.hexes hex)) (private_of private)

-- the board with the blocked hex of a line `block <private> <hex>` more
abbrev pub add_block : Plan → List (List ℕ) → Option Plan
add_block plan [] = None
add_block plan (private ∷ []) = None
add_block plan (private ∷ hex ∷ []) = block_of plan private hex
add_block plan (private ∷ hex ∷ more ∷ rest) = None

-- the board with what a line says more, if it may say that there
abbrev pub add_line : Plan → List (List ℕ) → Option Plan
add_line plan [] = None
add_line plan (head ∷ rest) =
    if bytes_eq head (codes "hex") then add_hex plan rest
    else if bytes_eq head (codes "home") then add_home plan rest
    else if bytes_eq head (codes "block") then add_block plan rest
    else None

-- the board that lines give
abbrev pub plan_of : List (List (List ℕ)) → Option Plan
plan_of lines = added add_line bare lines
