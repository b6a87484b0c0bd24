use Rattle.rr_store.proofs.RecoveryLemmas.PlayingLemmas.{refused}
use Rattle.rr_store.proofs.recovery.playing.play.Goals as goal

pub returns-in-Err-clause-refused : goal.returns-in-Err-clause-refused
returns-in-Err-clause-refused c =
    rw (c.damage.ensures)
    (refused c.requests_have_one_verdict.ensures c.args.kit.now c.args.table.now c.stamp-stamp.result c.args.words.now c.in_ok-command.command c.in-Err.fault
    c.in_ok-command.ensures c.stamp-stamp.ensures.value c.in-Err.ensures.verdict)

pub returns-in-Ok-clause-played : goal.returns-in-Ok-clause-played
returns-in-Ok-clause-played c =
    record {
      command = c.in_ok-command.command;
      spelled = c.in_ok-command.ensures;
      kept = c.in-Ok.ensures.kept;
      played = c.in-Ok.ensures.played;
      named = c.in-Ok.ensures.named;
    }
