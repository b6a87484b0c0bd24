use Rattle.std.proofs.Common.{ap}
use Rattle.rr_desk.specs.Layout.Layout.{Placed}
use Rattle.rr_desk.proofs.LayoutLemmas.LayoutLemmas.{extends_lay, extends_station, stays_by}
use Rattle.rr_desk.proofs.layout.layout.Layout.follow.Goals as goal

pub returns-in-Lay : goal.returns-in-Lay
returns-in-Lay c =
    rw c.in-Lay.is (extends_lay c.args.self.now c.lay.new.self (record { hex = c.in-Lay.hex; tile = c.in-Lay.tile; turn = c.in-Lay.turn }) (ap (λ (p : Placed). p.lays) c.lay.ensures) (ap (λ (p : Placed). p.stations) c.lay.ensures))

pub returns-in-Station : goal.returns-in-Station
returns-in-Station c =
    rw c.in-Station.is (extends_station c.args.self.now c.station.new.self (record { corp = c.in-Station.corp; hex = c.in-Station.hex; centre = c.in-Station.centre }) (ap (λ (p : Placed). p.lays) c.station.ensures) (ap (λ (p : Placed). p.stations) c.station.ensures))

pub returns-in_default : goal.returns-in_default
returns-in_default c = stays_by c.args.entry.now c.args.self.now c.in_default.not-Lay c.in_default.not-Station
