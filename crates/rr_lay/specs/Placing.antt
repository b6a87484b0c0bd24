-- When a corporation may place a token, and what that adds to the book.
use Rattle.std.specs.Prelude.{◌≡◌, ℕ, ◌+◌, ◌==◌, ◌&&◌, not, nat_le, Bool, List, Option, None, Some, count_by, bytes_eq, if◌then◌else◌}
use Rattle.std.specs.List.{list_any}
use Rattle.rr_roster.specs.declared.company.Corp.{Corp}
use Rattle.rr_roster.specs.Company.{corp_index}
use Rattle.rr_books.specs.declared.acts.Act.TheVariants as A
use Rattle.rr_books.specs.declared.entries.Entry.TheVariants as E
use Rattle.rr_kit.specs.declared.board.hex.Hex.{Hex}
use Rattle.rr_kit.specs.declared.board.hex.Home.{Home}
use Rattle.rr_kit.specs.Board.Plan.{Plan, hex_named, is_home_at, slots_at}
use Rattle.rr_tiles.specs.declared.supply.Supply.{Supply}
use Rattle.rr_desk.specs.Effects.{Effect}
use Rattle.rr_desk.specs.declared.layout.layout.Station.{Station}
use Rattle.rr_desk.specs.Layout.Layout.{Placed, stations}
use Rattle.rr_network.specs.Network.{face_on}
use Rattle.rr_network.specs.Walk.{ReachesNode, node_of}
use Rattle.rr_books.specs.declared.refusal.Refusal.{Refusal}
use Rattle.rr_books.specs.declared.refusal.Refusal.TheVariants as F
use Rattle.rr_lay.specs.Judging.{After, Needs}
use Rattle.rr_lay.specs.Laying.{net_now}
use Rattle.rr_lay.specs.Position.{Position}
use Rattle.rr_lay.specs.Costs.{cost_verdict, puts}

abbrev pub is_token_of : Corp → Station → Bool
is_token_of corp station = corp_index station.corp == corp_index corp

-- how many tokens the corporation has placed
abbrev pub placed_by : List Station → Corp → ℕ
placed_by all corp = count_by (is_token_of corp) all

-- the token is at this centre of the hex
abbrev pub is_token_at : List ℕ → ℕ → Station → Bool
is_token_at hex centre station = bytes_eq station.hex hex && station.centre == centre

-- the centre is the home of a corporation that has no token anywhere yet: a slot is kept for it
abbrev pub is_kept : List Station → List ℕ → ℕ → Home → Bool
is_kept all hex centre home = is_home_at hex centre home && not (list_any (is_token_of home.corp) all)

-- how many of a city's slots are filled or kept
unfoldable pub slots_taken : List Home → List Station → List ℕ → ℕ → ℕ
slots_taken homes all hex centre = count_by (is_token_at hex centre) all + count_by (is_kept all hex centre) homes

abbrev pub is_own_at : Corp → List ℕ → ℕ → Station → Bool
is_own_at corp hex centre station = is_token_of corp station && is_token_at hex centre station

-- there is a city, one of its slots is neither filled nor kept, and the corporation has no token there
abbrev pub city_verdict : List Home → List Station → Station → Option ℕ → Option Refusal
city_verdict homes all station None = Some F.NoSlot
city_verdict homes all station (Some slots) =
    if nat_le slots (slots_taken homes all station.hex station.centre) then Some F.NoSlot
    else if list_any (is_own_at station.corp station.hex station.centre) all then Some F.NoSlot
    else None

-- the corporation, which has so many tokens, has one left
abbrev pub token_verdict : ℕ → List Station → Corp → Option Refusal
token_verdict tokens all corp = if nat_le tokens (placed_by all corp) then Some F.NoTokenLeft else None

-- the checks that come before any that takes memory: there is such a hex, and a token is left
abbrev pub first_verdict : ℕ → List Station → Corp → Option Hex → Option Refusal
first_verdict tokens all corp None = Some F.NoSuchName
first_verdict tokens all corp (Some hex) = token_verdict tokens all corp

abbrev pub first_station_verdict : Plan → ℕ → Position → Station → Option Refusal
first_station_verdict plan tokens now station = first_verdict tokens now.stations station.corp (hex_named plan.hexes station.hex)

-- a token is left, and the city takes it
abbrev pub slot_verdict : Plan → List Supply → ℕ → Placed → Hex → Station → Option Refusal
slot_verdict plan tiles tokens placed hex station =
    if nat_le tokens (placed_by placed.stations station.corp) then Some F.NoTokenLeft
    else city_verdict plan.homes placed.stations station (slots_at (face_on tiles placed.lays hex).parts station.centre)

-- the first token is free, the second costs 40, each later one 100
abbrev pub token_cost : ℕ → ℕ
token_cost before = if before == 0 then 0 else if before == 1 then 40 else 100

-- the verdict on a token, of this hex
abbrev pub IsVerdictOn : Plan → List Supply → ℕ → Position → Station → Hex → Option Refusal → Type 0
IsVerdictOn plan tiles tokens now station hex =
    After (slot_verdict plan tiles tokens (record { lays = now.lays; stations = now.stations }) hex station)
    (Needs (ReachesNode (net_now plan tiles now) station.corp (node_of station)) F.NotReached
    (λ verdict. verdict ≡ cost_verdict now.cash station.corp (Some (token_cost (placed_by now.stations station.corp)))))

abbrev pub IsVerdictAt : Plan → List Supply → ℕ → Position → Station → Option Hex → Option Refusal → Type 0
IsVerdictAt plan tiles tokens now station None verdict = verdict ≡ Some F.NoSuchName
IsVerdictAt plan tiles tokens now station (Some hex) verdict = IsVerdictOn plan tiles tokens now station hex verdict

-- the verdict on placing a token of a corporation that has so many: the first check that fails, if one does
abbrev pub IsStationVerdict : Plan → List Supply → ℕ → Position → Station → Option Refusal → Type 0
IsStationVerdict plan tiles tokens now station verdict = IsVerdictAt plan tiles tokens now station (hex_named plan.hexes station.hex) verdict

-- what placing the token adds: the command's words, the payment of its cost, be it 0, and the token
abbrev pub places_token : Station → Effect
places_token station book = puts (A.Station station.corp station.hex station.centre) station.corp (Some (token_cost (placed_by (stations book) station.corp))) (E.Station station.corp station.hex station.centre) book
