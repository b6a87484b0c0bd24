-- The centres of a network are sound, and there are as many as the tiles on its hexes have.
use Rattle.std.proofs.Common.{◌≡◌, ℕ, ◌+◌, ◌≤◌, refl, sym, ap, ◌∙◌, List, [], ◌∷◌, ◌++◌, length, reverse, length-append, Option, None, Some, inl, inr, arith}
use Rattle.std.specs.Prelude.{All, Contains, slice_index_or, bytes_eq, find, flat_map, option_and_then, option_map, unwrap_or}
use Rattle.std.proofs.lemmas.Bool.{cases_Bool}
use Rattle.std.proofs.lemmas.List.{reverse-append}
use Rattle.std.proofs.lemmas.List.Elements.{All-append, All-cons, All-contains, All-contains_itself, All-head, All-nil, All-tail, length_all_zip}
use Rattle.std.proofs.lemmas.List.Sums.{sum_by-cons}
use Rattle.std.proofs.lemmas.Slice.Eq.{bytes_eq-Decides}
use Rattle.rr_kit.specs.declared.board.hex.TheConstants.{MOST_CENTRES}
use Rattle.rr_kit.specs.declared.board.hex.Hex.{Hex}
use Rattle.rr_kit.specs.Board.Plan.{Plan}
use Rattle.rr_kit.specs.Board.Sound.{IsHex, IsWholeBoard, centres_on}
use Rattle.rr_kit.proofs.BoardLemmas.BoardLemmas.{find-found}
use Rattle.rr_tiles.specs.Keeping.{Keeps, KeepsCentre}
use Rattle.rr_tiles.specs.Manifest.{IsManifest, IsSupply}
use Rattle.rr_tiles.specs.Sound.{IsPart, IsTile}
use Rattle.rr_tiles.specs.Supply.{supply_at}
use Rattle.rr_tiles.specs.Tile.{Face, centres_of, turned}
use Rattle.rr_tiles.specs.declared.part.Part.{Part}
use Rattle.rr_tiles.specs.declared.part.Part.TheVariants.{Track as OfTrack, Centre as OfCentre}
use Rattle.rr_tiles.specs.declared.supply.Supply.{Supply}
use Rattle.rr_tiles.proofs.TileLemmas.{IsTile-turned}
use Rattle.rr_desk.specs.declared.layout.layout.Lay.{Lay}
use Rattle.rr_desk.specs.Layout.Layout.{Placed, last_lay}
use Rattle.rr_network.specs.Network.{face_on, hex_stops, laid, net_of, seen_after, stops_in, stops_of}
use Rattle.rr_network.specs.Stops.{HexesKeepTheirCentres, IsStop, KeepsWhatLies, NothingLaidKeepsCentres, UpgradesKeepCentres, centre_count}

-- what lies on a hex is sound
laid-sound : (tiles : List Supply) (hex : Hex) (lay : Lay) → All IsSupply tiles → IsHex hex → (supply : Option Supply) → supply_at tiles lay.tile ≡ supply → IsTile (unwrap_or (option_map (λ s. turned lay.turn s.tile) supply) hex.tile)
laid-sound tiles hex lay sound its None is = its.sound_tile
laid-sound tiles hex lay sound its (Some supply) is =
    let found = find-found _ tiles supply is in
    IsTile-turned lay.turn supply.tile (All-contains IsSupply tiles supply sound found.among).sound_tile

lies-sound : (tiles : List Supply) (hex : Hex) (lay : Option Lay) → All IsSupply tiles → IsHex hex → IsTile (unwrap_or (option_and_then (laid tiles) lay) hex.tile)
lies-sound tiles hex None sound its = its.sound_tile
lies-sound tiles hex (Some lay) sound its = laid-sound tiles hex lay sound its (supply_at tiles lay.tile) refl

-- so its centres are
stops_of-sound : (name : List ℕ) (seen : ℕ) (part : Part) → IsPart part → All IsStop (stops_of name seen part)
stops_of-sound name seen (OfTrack track) sound = All-nil IsStop
stops_of-sound name seen (OfCentre centre) sound = All-cons IsStop _ [] (record { sound_kind = sound.sound_kind; sound_value = sound.sound_value }) (All-nil IsStop)

stops_in-sound : (name : List ℕ) (seen : ℕ) (parts : List Part) → All IsPart parts → All IsStop (stops_in name seen parts)
unfolding stops_in
stops_in-sound name seen [] sound = All-nil IsStop
stops_in-sound name seen (part ∷ parts) sound =
    All-append IsStop (stops_of name seen part) (stops_in name (seen_after seen part) parts) (stops_of-sound name seen part (All-head IsPart part parts sound)) (stops_in-sound name (seen_after seen part) parts (All-tail IsPart part parts sound))

hexes-sound : (tiles : List Supply) (all : List Lay) (hexes : List Hex) → All IsSupply tiles → All IsHex hexes → All IsStop (flat_map (hex_stops tiles all) hexes)
hexes-sound tiles all [] sound its = All-nil IsStop
hexes-sound tiles all (hex ∷ hexes) sound its =
    All-append IsStop (hex_stops tiles all hex) (flat_map (hex_stops tiles all) hexes)
    (stops_in-sound hex.name 0 (face_on tiles all hex).parts (lies-sound tiles hex (last_lay all hex.name) sound (All-head IsHex hex hexes its)).sound_parts)
    (hexes-sound tiles all hexes sound (All-tail IsHex hex hexes its))

pub stops-sound : (plan : Plan) (tiles : List Supply) (placed : Placed) → IsWholeBoard plan → IsManifest tiles → All IsStop (net_of plan tiles placed).stops
stops-sound plan tiles placed board manifest = hexes-sound tiles placed.lays plan.hexes manifest.sound_supplies board.is_board.sound_hexes

-- as many as the tile has
length-stops_in : (name : List ℕ) (seen : ℕ) (parts : List Part) → length (stops_in name seen parts) ≡ length (centres_of parts)
unfolding stops_in
length-stops_in name seen [] = refl
length-stops_in name seen (OfTrack track ∷ parts) = length-stops_in name seen parts
length-stops_in name seen (OfCentre centre ∷ parts) = omega (arith, length-stops_in name (seen + 1) parts)

length-stops : (tiles : List Supply) (all : List Lay) (hexes : List Hex) → All (λ hex. centre_count (face_on tiles all hex) ≡ centre_count hex.tile) hexes → length (flat_map (hex_stops tiles all) hexes) ≡ centres_on hexes
length-stops tiles all [] same = refl
length-stops tiles all (hex ∷ hexes) same =
    let here : centre_count (face_on tiles all hex) ≡ centre_count hex.tile = All-head (λ h. centre_count (face_on tiles all h) ≡ centre_count h.tile) hex hexes same in
    let rest = length-stops tiles all hexes (All-tail (λ h. centre_count (face_on tiles all h) ≡ centre_count h.tile) hex hexes same) in
    omega (arith, length-append (hex_stops tiles all hex) (flat_map (hex_stops tiles all) hexes), length-stops_in hex.name 0 (face_on tiles all hex).parts, here, rest, sum_by-cons (λ (h : Hex). length (centres_of h.tile.parts)) hex hexes)

pub few_stops : (plan : Plan) (tiles : List Supply) (placed : Placed) → IsWholeBoard plan → HexesKeepTheirCentres plan tiles placed.lays → length (net_of plan tiles placed).stops ≤ MOST_CENTRES
few_stops plan tiles placed board same = omega (arith, length-stops tiles placed.lays plan.hexes same, board.few_centres)

-- laying tiles
pub nothing_laid : NothingLaidKeepsCentres
nothing_laid plan tiles k d within = refl

KeepsCount : (old new : Face) → Keeps old new → centre_count new ≡ centre_count old
KeepsCount old new keeps = sym (length_all_zip KeepsCentre (centres_of old.parts) (centres_of new.parts) keeps.centres)

-- the last lay on a hex, with one lay more
last_lay-more : (all : List Lay) (lay : Lay) (name : List ℕ) → last_lay (all ++ lay ∷ []) name ≡ find (λ (l : Lay). bytes_eq l.hex name) (lay ∷ reverse all)
last_lay-more all lay name = ap (find (λ (l : Lay). bytes_eq l.hex name)) (reverse-append all (lay ∷ []))

upgraded : (tiles : List Supply) (lay : Lay) (hex : Hex) (old : Face) (supply : Option Supply) → supply_at tiles lay.tile ≡ supply → centre_count old ≡ centre_count hex.tile
    → ((s : Supply) → supply_at tiles lay.tile ≡ Some s → Keeps old (turned lay.turn s.tile)) → centre_count (unwrap_or (option_map (λ s. turned lay.turn s.tile) supply) hex.tile) ≡ centre_count hex.tile
upgraded tiles lay hex old None is same keeps = refl
upgraded tiles lay hex old (Some supply) is same keeps = KeepsCount old (turned lay.turn supply.tile) (keeps supply is) ∙ same

count_after : (plan : Plan) (tiles : List Supply) (all : List Lay) (lay : Lay) → KeepsWhatLies plan tiles all lay → (hex : Hex) → Contains plan.hexes hex → centre_count (face_on tiles all hex) ≡ centre_count hex.tile → centre_count (face_on tiles (all ++ lay ∷ []) hex) ≡ centre_count hex.tile
count_after plan tiles all lay keeps hex among same =
    let more = last_lay-more all lay hex.name in
    elim (cases_Bool (bytes_eq lay.hex hex.name)) [
      | inl here ↦
          let named : hex.name ≡ lay.hex = sym ((bytes_eq-Decides lay.hex hex.name).0 here) in
          let last : last_lay (all ++ lay ∷ []) hex.name ≡ Some lay = more ∙ rw here refl in
          ap (λ (o : Option Lay). centre_count (unwrap_or (option_and_then (laid tiles) o) hex.tile)) last
          ∙ upgraded tiles lay hex (face_on tiles all hex) (supply_at tiles lay.tile) refl same (λ supply is. keeps hex supply among named is)
      | inr elsewhere ↦
          let last : last_lay (all ++ lay ∷ []) hex.name ≡ last_lay all hex.name = more ∙ rw elsewhere refl in
          ap (λ (o : Option Lay). centre_count (unwrap_or (option_and_then (laid tiles) o) hex.tile)) last ∙ same
    ]

pub upgrades_keep : UpgradesKeepCentres
upgrades_keep plan tiles all lay same keeps k d within =
    let hex = slice_index_or plan.hexes k d in
    count_after plan tiles all lay keeps hex (All-contains_itself plan.hexes k d within) (same k d within)
