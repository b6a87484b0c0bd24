use Rattle.std.proofs.Common.{arith, ap, length, ◌<◌}
use Rattle.rr_desk.specs.Layout.Layout.{Placed}
use Rattle.rr_desk.specs.Layout.Slots.{length-take-filled, no_station}
use Rattle.rr_desk.proofs.LayoutLemmas.SlotLemmas.{filled_more}
use Rattle.rr_desk.proofs.layout.layout.Layout.station.Goals as goal

pub invariant_of-self : goal.invariant_of-self
invariant_of-self c =
    let inside = c.self.inside in
    let count = length-take-filled no_station 48 inside.station_count inside.stations c.self.invariant.1 in
    let shown = ap (λ (p : Placed). length p.stations) c.self.view_is in
    let room : inside.station_count < 48 = omega (arith, count, shown, c.requires) in
    (c.self.invariant.0, filled_more no_station 48 inside.station_count inside.stations c.args.station room c.self.invariant.1)
