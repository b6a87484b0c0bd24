-- A verdict of the rules below stands behind its own first checks.
use Rattle.std.specs.Prelude.{◌≡◌, ◌⊎◌, ℕ, Bool, true, false, Option, None, Some, refl, if◌then◌else◌, List}
use Rattle.std.proofs.Common.{◌∙◌, inl, inr}
use Rattle.rr_roster.specs.declared.company.Corp.{Corp}
use Rattle.rr_roster.specs.Terms.{tokens_of}
use Rattle.rr_books.specs.declared.acts.Act.TheVariants as A
use Rattle.rr_books.specs.Book.{Book}
use Rattle.rr_kit.specs.declared.board.hex.Hex.{Hex}
use Rattle.rr_kit.specs.Board.Plan.{Plan, hex_named}
use Rattle.rr_tiles.specs.declared.supply.Supply.{Supply}
use Rattle.rr_tiles.specs.Supply.{supply_at}
use Rattle.rr_desk.specs.declared.layout.layout.Lay.{Lay}
use Rattle.rr_desk.specs.declared.layout.layout.Station.{Station}
use Rattle.rr_kit.specs.declared.kit.Kit.{Kit}
use Rattle.rr_books.specs.declared.refusal.Refusal.{Refusal}
use Rattle.rr_books.specs.declared.refusal.Refusal.TheVariants as Y
use Rattle.rr_lay.specs.Judging as judging
use Rattle.rr_lay.specs.Laying as laying
use Rattle.rr_lay.specs.Placing as placing
use Rattle.rr_lay.specs.Position.{Position, position_of}
use Rattle.rr_operate.specs.Rows.{After, IsVerdictOfRow, MayJudgeRow}

after_is : (x : Option Refusal) (Next : Option Refusal → Type 0) (w : Option Refusal) (f : Refusal) → judging.After x Next w → x ≡ Some f → w ≡ Some f
after_is None Next w f h e = absurd (cc)
after_is (Some g) Next w f h e = h ∙ e

-- the first checks of a tile
tile_first : (plan : Plan) (tiles : List Supply) (now : Position) (corp : Corp) (l : Lay) (hex : Option Hex) (supply : Option Supply) (w : Option Refusal)
    → laying.IsVerdictAt plan tiles now corp l hex supply w → (f : Refusal) → laying.first_verdict plan tiles now hex supply ≡ Some f → w ≡ Some f
tile_first plan tiles now corp l None supply w h f e = h ∙ e
tile_first plan tiles now corp l (Some hex) None w h f e = h ∙ e
tile_first plan tiles now corp l (Some hex) (Some supply) w h f e =
    after_is (laying.supply_verdict plan tiles now hex supply) _ w f h e

-- the first checks of a token
slot_first : (b : Bool) (others : Option Refusal) (f : Refusal) → (if b then Some Y.NoTokenLeft else None) ≡ Some f → (if b then Some Y.NoTokenLeft else others) ≡ Some f
slot_first true others f e = e
slot_first false others f e = absurd (cc)

token_first : (plan : Plan) (tiles : List Supply) (tokens : ℕ) (now : Position) (station : Station) (hex : Option Hex) (w : Option Refusal)
    → placing.IsVerdictAt plan tiles tokens now station hex w → (f : Refusal) → placing.first_verdict tokens now.stations station.corp hex ≡ Some f → w ≡ Some f
token_first plan tiles tokens now station None w h f e = h ∙ e
token_first plan tiles tokens now station (Some hex) w h f e =
    after_is (placing.slot_verdict plan tiles tokens (record { lays = now.lays; stations = now.stations }) hex station) _ w f h (slot_first _ _ f e)

behind : (first : Option Refusal) (IsTheirs : Option Refusal → Type 0) (w : Option Refusal) → ((f : Refusal) → first ≡ Some f → w ≡ Some f) → IsTheirs w
    → After first IsTheirs w
behind None IsTheirs w told h = h
behind (Some f) IsTheirs w told h = told f refl

-- a verdict on a tile, and on a token, is that of the row
pub tile_told : (kit : Kit) (book : Book) (corp : Corp) (l : Lay) (w : Option Refusal) → laying.IsLayVerdict kit.board kit.tiles (position_of book) corp l w
    → IsVerdictOfRow kit book (A.Lay corp l.hex l.tile l.turn) w
tile_told kit book corp l w h =
    let hex = hex_named kit.board.hexes l.hex in
    let supply = supply_at kit.tiles l.tile in
    behind (laying.first_verdict kit.board kit.tiles (position_of book) hex supply) (laying.IsLayVerdict kit.board kit.tiles (position_of book) corp l) w
    (tile_first kit.board kit.tiles (position_of book) corp l hex supply w h) h

pub token_told : (kit : Kit) (book : Book) (station : Station) (w : Option Refusal)
    → placing.IsStationVerdict kit.board kit.tiles (tokens_of kit.roster station.corp) (position_of book) station w
    → IsVerdictOfRow kit book (A.Station station.corp station.hex station.centre) w
token_told kit book station w h =
    let hex = hex_named kit.board.hexes station.hex in
    let tokens = tokens_of kit.roster station.corp in
    behind (placing.first_station_verdict kit.board tokens (position_of book) station) (placing.IsStationVerdict kit.board kit.tiles tokens (position_of book) station) w
    (token_first kit.board kit.tiles tokens (position_of book) station hex w h) h

-- a refused tile or token
pub tile_refused : (kit : Kit) (book : Book) (corp : Corp) (l : Lay) (fault : Refusal)
    → ((fault ≡ Y.OutOfMemory) × (laying.first_lay_verdict kit.board kit.tiles (position_of book) l ≡ None)) ⊎ laying.IsLayVerdict kit.board kit.tiles (position_of book) corp l (Some fault)
    → MayJudgeRow kit book (A.Lay corp l.hex l.tile l.turn) fault
tile_refused kit book corp l fault (inl (want, passes)) = inr (passes, want)
tile_refused kit book corp l fault (inr told) = inl (tile_told kit book corp l (Some fault) told)

pub token_refused : (kit : Kit) (book : Book) (station : Station) (fault : Refusal)
    → ((fault ≡ Y.OutOfMemory) × (placing.first_station_verdict kit.board (tokens_of kit.roster station.corp) (position_of book) station ≡ None)) ⊎ placing.IsStationVerdict kit.board kit.tiles (tokens_of kit.roster station.corp) (position_of book) station (Some fault)
    → MayJudgeRow kit book (A.Station station.corp station.hex station.centre) fault
token_refused kit book station fault (inl (want, passes)) = inr (passes, want)
token_refused kit book station fault (inr told) = inl (token_told kit book station (Some fault) told)
