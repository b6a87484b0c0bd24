use Rattle.rr_store.proofs.Events.{commit_is_event, open_is_event, step_is_event}
use Rattle.rr_store.proofs.laws.calls_are_events.Goals as goal

pub returns : goal.returns
returns g c =
    record {
      commits = λ texts old new name stamp request result moments said h s whole passes.
          commit_is_event g.D.Disk.Honest g.D.Disk.Works g.D.Disk.state g.D.Disk.past g.D.Disk.fault_count g.D.Disk.write_count g.D.Disk.sync_count
          texts old new name stamp request result moments said h s whole passes;
      ticks = λ texts old new result moments said h s whole passes.
          step_is_event g.D.Disk.Honest g.D.Disk.Works g.D.Disk.state g.D.Disk.past g.D.Disk.fault_count g.D.Disk.write_count g.D.Disk.sync_count
          texts old new moments h s whole passes result said;
      checkpoints = λ texts old new result moments said h s whole passes.
          step_is_event g.D.Disk.Honest g.D.Disk.Works g.D.Disk.state g.D.Disk.past g.D.Disk.fault_count g.D.Disk.write_count g.D.Disk.sync_count
          texts old new moments h s whole passes result said;
      opens = λ texts kit tables disk result moments said h right of_kit keeps passes.
          open_is_event g.D.Disk.Honest g.D.Disk.Works g.D.Disk.state g.D.Disk.past g.D.Disk.fault_count g.D.Disk.write_count g.D.Disk.sync_count
          texts g.met.D.Disk.content_may_stay kit tables disk right of_kit keeps result moments said h passes;
    }
