-- Each command has one verdict.
use Rattle.std.specs.Prelude.{◌≡◌, ℕ, List, Option, None, Some}
use Rattle.std.proofs.Common.{sym, ◌∙◌, inl, inr}
use Rattle.rr_roster.specs.declared.company.Corp.{Corp}
use Rattle.rr_kit.specs.declared.board.hex.Hex.{Hex}
use Rattle.rr_kit.specs.Board.Plan.{Plan, hex_named}
use Rattle.rr_tiles.specs.declared.supply.Supply.{Supply}
use Rattle.rr_tiles.specs.Supply.{supply_at}
use Rattle.rr_desk.specs.declared.layout.layout.Lay.{Lay}
use Rattle.rr_desk.specs.declared.layout.layout.Station.{Station}
use Rattle.rr_books.specs.declared.refusal.Refusal.{Refusal}
use Rattle.rr_books.specs.declared.refusal.Refusal.TheVariants as F
use Rattle.rr_lay.specs.Judging.{After, Needs}
use Rattle.rr_lay.specs.Laying.{IsLayVerdict, IsUpgrade, IsVerdictAt, ReachesNewLink, lay_cost, net_now, net_with, supply_verdict}
use Rattle.rr_lay.specs.Placing as placing
use Rattle.rr_lay.specs.Position.{Position}
use Rattle.rr_lay.specs.Costs.{cost_verdict}
use Rattle.rr_network.specs.Walk.{ReachesNode, node_of}

both_are : (e v w : Option Refusal) → v ≡ e → w ≡ e → v ≡ w
both_are e v w p q = p ∙ sym q

needs_same : (Needed : Type 0) (lacking : Refusal) (Next : Option Refusal → Type 0) (v w : Option Refusal) → (Next v → Next w → v ≡ w) → Needs Needed lacking Next v → Needs Needed lacking Next w → v ≡ w
needs_same Needed lacking Next v w same (inl a) (inl b) = a.1 ∙ sym b.1
needs_same Needed lacking Next v w same (inl a) (inr b) = absurd (a.0 b.0)
needs_same Needed lacking Next v w same (inr a) (inl b) = absurd (b.0 a.0)
needs_same Needed lacking Next v w same (inr a) (inr b) = same a.1 b.1

after_same : (early : Option Refusal) (Next : Option Refusal → Type 0) (v w : Option Refusal) → (Next v → Next w → v ≡ w) → After early Next v → After early Next w → v ≡ w
after_same None Next v w same a b = same a b
after_same (Some fault) Next v w same a b = a ∙ sym b

lay_same_at : (plan : Plan) (tiles : List Supply) (now : Position) (corp : Corp) (lay : Lay) (hex : Option Hex) (supply : Option Supply) (v w : Option Refusal) → IsVerdictAt plan tiles now corp lay hex supply v → IsVerdictAt plan tiles now corp lay hex supply w → v ≡ w
lay_same_at plan tiles now corp lay None supply v w a b = a ∙ sym b
lay_same_at plan tiles now corp lay (Some hex) None v w a b = a ∙ sym b
lay_same_at plan tiles now corp lay (Some hex) (Some supply) v w a b =
    let cost = cost_verdict now.cash corp (lay_cost now.lays hex) in
    let Last : Option Refusal → Type 0 = λ verdict. verdict ≡ cost in
    let Reaches : Type 0 = ReachesNewLink (net_now plan tiles now) (net_with plan tiles now lay) corp in
    let Fits : Type 0 = IsUpgrade plan tiles now.lays hex supply lay.turn in
    after_same (supply_verdict plan tiles now hex supply) (Needs Fits F.NotAnUpgrade (Needs Reaches F.NotReached Last)) v w
    (needs_same Fits F.NotAnUpgrade (Needs Reaches F.NotReached Last) v w (needs_same Reaches F.NotReached Last v w (both_are cost v w))) a b

station_same_at : (plan : Plan) (tiles : List Supply) (tokens : ℕ) (now : Position) (station : Station) (hex : Option Hex) (v w : Option Refusal) → placing.IsVerdictAt plan tiles tokens now station hex v → placing.IsVerdictAt plan tiles tokens now station hex w → v ≡ w
station_same_at plan tiles tokens now station None v w a b = a ∙ sym b
station_same_at plan tiles tokens now station (Some hex) v w a b =
    let cost = cost_verdict now.cash station.corp (Some (placing.token_cost (placing.placed_by now.stations station.corp))) in
    let Last : Option Refusal → Type 0 = λ verdict. verdict ≡ cost in
    let Reaches : Type 0 = ReachesNode (net_now plan tiles now) station.corp (node_of station) in
    after_same (placing.slot_verdict plan tiles tokens (record { lays = now.lays; stations = now.stations }) hex station) (Needs Reaches F.NotReached Last) v w
    (needs_same Reaches F.NotReached Last v w (both_are cost v w)) a b

-- no two verdicts on one tile, and none on one token
abbrev pub OneLayVerdict : Type 0
OneLayVerdict = (plan : Plan) (tiles : List Supply) (now : Position) (corp : Corp) (lay : Lay) (v w : Option Refusal) → IsLayVerdict plan tiles now corp lay v → IsLayVerdict plan tiles now corp lay w → v ≡ w

abbrev pub OneStationVerdict : Type 0
OneStationVerdict = (plan : Plan) (tiles : List Supply) (tokens : ℕ) (now : Position) (station : Station) (v w : Option Refusal) → placing.IsStationVerdict plan tiles tokens now station v → placing.IsStationVerdict plan tiles tokens now station w → v ≡ w

pub one_lay_verdict : OneLayVerdict
one_lay_verdict plan tiles now corp lay v w a b = lay_same_at plan tiles now corp lay (hex_named plan.hexes lay.hex) (supply_at tiles lay.tile) v w a b

pub one_station_verdict : OneStationVerdict
one_station_verdict plan tiles tokens now station v w a b = station_same_at plan tiles tokens now station (hex_named plan.hexes station.hex) v w a b
