use Rattle.rr_images.proofs.ScheduleLemmas.Schedules.{prefix as sound, none_turned_away}
use Rattle.rr_images.proofs.schedules.laws.prefix.Goals as goal

pub returns : goal.returns
returns g c = record { sound = sound g.W.Worlds.worlds; opens = none_turned_away g.W.Worlds.worlds }
