use Rattle.std.proofs.Common.{arith}
use Rattle.rr_log.proofs.log.Log.new.Goals as goal

pub returns-clause-carries : goal.returns-clause-carries
returns-clause-carries g c = λ state world carries resting kit standing base.
    record {
      carried = carries;
      kit = kit;
      present = λ none. standing;
      coming = λ some. absurd (omega (arith, some, resting));
      base = λ none. base;
      no_base = λ some. absurd (omega (arith, some, resting));
    }
