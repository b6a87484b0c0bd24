use Rattle.std.proofs.Common.{subst}
use Rattle.std.specs.Prelude.{OnOk}
use Rattle.rr_desk.specs.Desk.{Takes}
use Rattle.rr_desk.specs.declared.layout.layout.Station.{Station}
use Rattle.rr_lay.specs.Placing.{places_token}
use Rattle.rr_operate.proofs.playing.play.Goals as goal

pub returns-in-Station-clause-takes : goal.returns-in-Station-clause-takes
returns-in-Station-clause-takes c = rw c.in-Station.is
    (subst (λ (s : Station). OnOk c.play_station.result (Takes (places_token s) c.args.desk.now c.play_station.new.desk)) c.token_of.ensures c.play_station.ensures.takes)
