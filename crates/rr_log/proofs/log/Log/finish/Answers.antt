use Rattle.rr_log.proofs.Carried.{done_carries}
use Rattle.rr_log.proofs.log.Log.finish.Goals as goal

pub returns-in-Ok-clause-carries : goal.returns-in-Ok-clause-carries
returns-in-Ok-clause-carries g c = λ honest whole world carries.
    let log = c.args.self.now in
    let some = c.requires.under_way in
    let then = c.in-Ok.ensures.carries honest world carries.carried in
    done_carries g.R.Rules.rules log (g.D.Disk.state log.disk) world carries c.finish.new.disk c.finish.new.self (g.D.Disk.state c.finish.new.disk) some c.in-Ok.ensures.left (c.in-Ok.ensures.rests some)
    (then.0, (then.1 some).present)

pub returns-in-Ok-clause-renewed : goal.returns-in-Ok-clause-renewed
returns-in-Ok-clause-renewed g c = λ honest world carries.
    let log = c.args.self.now in
    let some = c.requires.under_way in
    let then = c.in-Ok.ensures.carries honest world carries.carried in (
      done_carries g.R.Rules.rules log (g.D.Disk.state log.disk) world carries c.finish.new.disk c.finish.new.self (g.D.Disk.state c.finish.new.disk) some c.in-Ok.ensures.left (c.in-Ok.ensures.rests some)
          (then.0, (then.1 some).present),
      (then.1 some).renewed,
    )

pub returns-in-Ok-clause-takes_root : goal.returns-in-Ok-clause-takes_root
returns-in-Ok-clause-takes_root g c = λ honest world carries.
    let log = c.args.self.now in
    let some = c.requires.under_way in
    let then = c.in-Ok.ensures.carries honest world carries.carried in (
      done_carries g.R.Rules.rules log (g.D.Disk.state log.disk) world carries c.finish.new.disk c.finish.new.self (g.D.Disk.state c.finish.new.disk) some c.in-Ok.ensures.left (c.in-Ok.ensures.rests some)
          (then.0, (then.1 some).present),
      record { base = (then.1 some).renewed.base; holding = (then.1 some).present },
    )

pub returns-in-Ok-clause-renews : goal.returns-in-Ok-clause-renews
returns-in-Ok-clause-renews g c = λ honest world carries. c.in-Ok.ensures.renews honest world carries.carried c.requires.under_way

pub returns-in-Err-clause-device : goal.returns-in-Err-clause-device
returns-in-Err-clause-device g c = λ honest world carries. c.in-Err.ensures.device honest world carries.carried

pub returns-in-Ok-clause-stops : goal.returns-in-Ok-clause-stops
returns-in-Ok-clause-stops g c = λ honest world carries. c.in-Ok.ensures.stops honest world carries.carried

pub returns-in-Err-clause-stops : goal.returns-in-Err-clause-stops
returns-in-Err-clause-stops g c = λ honest world carries. c.in-Err.ensures.stops honest world carries.carried

pub returns-in-Ok-clause-grows : goal.returns-in-Ok-clause-grows
returns-in-Ok-clause-grows g c = λ honest world carries. c.in-Ok.ensures.grows honest world carries.carried

pub returns-in-Err-clause-grows : goal.returns-in-Err-clause-grows
returns-in-Err-clause-grows g c = λ honest world carries. c.in-Err.ensures.grows honest world carries.carried
