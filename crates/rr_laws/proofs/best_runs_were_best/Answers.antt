use Rattle.rr_laws.proofs.BestCommands.{command_was_best}
use Rattle.rr_laws.proofs.BestEntries.{runs_were_best}
use Rattle.rr_laws.proofs.best_runs_were_best.Goals as goal

pub returns : goal.returns
returns c =
    record {
      entries = runs_were_best c.optimal.ensures.run;
      commands = command_was_best c.optimal.ensures.run;
    }
