use Rattle.std.proofs.Common.{rules}
use Rattle.rr_serve.proofs.output.CountingWriterOutput.write_all.Goals as goal

pub returns-clause-err : goal.returns-clause-err
returns-clause-err g c =
    let wrote = c.if-write_whole.ensures.writes in
    record {
      cut_short = record {
        front = wrote.0;
        more = wrote.1;
        reply_is = wrote.2;
        written = wrote.4;
        appended = wrote.3;
        flushes = c.write_whole.ensures.flushes;
        failed = search rules;
      };
      some_left = wrote.5;
    }
