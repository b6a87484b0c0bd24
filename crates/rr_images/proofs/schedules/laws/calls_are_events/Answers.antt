use Rattle.rr_images.proofs.ScheduleLemmas.Schedules.{commits_are_events, refusals_are_events, ticks_are_events}
use Rattle.rr_images.proofs.schedules.laws.calls_are_events.Goals as goal

pub returns : goal.returns
returns g c =
    let worlds = g.W.Worlds.worlds in
    record {
      commits = commits_are_events worlds;
      refusals = refusals_are_events worlds;
      ticks = ticks_are_events worlds;
    }
