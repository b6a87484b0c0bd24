use Rattle.rr_log.specs.Lent.{lent_of}
use Rattle.rr_log.proofs.PuttingOff.{refused_so}
use Rattle.rr_log.proofs.log.Log.tick_before.Goals as goal

pub returns-in-Err-clause-begins_due : goal.returns-in-Err-clause-begins_due
returns-in-Err-clause-begins_due g c =
    refused_so c.args.self.now c.step.new.self (lent_of g.T.TablesInWords c.args.tables.now) c.in-Err.fault c.put_off.result c.put_off.ensures.want
    c.in-Err.ensures.first c.in-Err.ensures.due c.in-Err.ensures.unchanged c.in-Err.ensures.full
