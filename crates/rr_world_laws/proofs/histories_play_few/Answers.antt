use Rattle.rr_world_laws.proofs.FewPlays.{histories_begin, histories_end, histories_go_on, histories_stay, histories_name, histories_play_few as few}
use Rattle.rr_world_laws.proofs.histories_play_few.Goals as goal

pub returns : goal.returns
returns g c =
    let openings = c.openings_play_few.ensures in
    record {
      begin = histories_begin g.P.Programs.programs;
      go_on = histories_go_on g.P.Programs.programs g.met.P.ProgramsOnDisks.may_stay;
      end = histories_end g.P.Programs.programs g.met.P.ProgramsOnDisks.may_stay;
      stay = histories_stay g.P.Programs.programs;
      named = histories_name g.P.Programs.programs c.snapshots_are_short.ensures openings.new_files openings.few;
      few = few g.P.Programs.programs c.snapshots_are_short.ensures openings.new_files openings.few;
    }
