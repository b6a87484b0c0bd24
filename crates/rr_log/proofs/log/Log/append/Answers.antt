use Rattle.std.proofs.Common.{refl}
use Rattle.rr_log.proofs.Carried.{same_carries, kept_carries}
use Rattle.rr_log.proofs.Roots.{record_roots, still_roots}
use Rattle.rr_log.proofs.log.Log.append.Goals as goal

pub returns-in-Ok-clause-carries : goal.returns-in-Ok-clause-carries
returns-in-Ok-clause-carries g c = λ honest whole old new takes same carries.
    let log = c.args.self.now in
    kept_carries g.R.Rules.rules log (g.D.Disk.state log.disk) old carries c.append.new.disk c.append.new.self (g.D.Disk.state c.append.new.disk) c.args.line.now new same c.in-Ok.ensures.left
    (c.in-Ok.ensures.carries honest old new takes carries.carried) c.in-Ok.ensures.begun

pub returns-in-Ok-clause-appends : goal.returns-in-Ok-clause-appends
returns-in-Ok-clause-appends g c = λ honest old new takes same carries.
    let log = c.args.self.now in
    let appended = c.in-Ok.ensures.carries honest old new takes carries.carried in (
      kept_carries g.R.Rules.rules log (g.D.Disk.state log.disk) old carries c.append.new.disk c.append.new.self (g.D.Disk.state c.append.new.disk) c.args.line.now new same c.in-Ok.ensures.left
          appended c.in-Ok.ensures.begun,
      appended.1.layout,
    )

pub returns-in-Ok-clause-roots : goal.returns-in-Ok-clause-roots
returns-in-Ok-clause-roots g c = λ whole honest due old new takes same carries.
    let log = c.args.self.now in
    let rules = g.R.Rules.rules in
    let line = c.args.line.now in
    let appended = c.in-Ok.ensures.carries honest old new takes carries.carried in (
      kept_carries rules log (g.D.Disk.state log.disk) old carries c.append.new.disk c.append.new.self (g.D.Disk.state c.append.new.disk) line new same c.in-Ok.ensures.left appended c.in-Ok.ensures.begun,
      record_roots rules log (record log { disk = c.append.new.disk; writer = c.append.new.self }) (g.D.Disk.state log.disk) old carries line new appended.0.layout appended.0.holding c.in-Ok.ensures.left refl appended.1,
    )

pub returns-in-Err-HalfFull-clause-roots : goal.returns-in-Err-HalfFull-clause-roots
returns-in-Err-HalfFull-clause-roots g c = λ whole honest due old new takes same carries.
    let is = c.in-Err-HalfFull.field-0-is in
    still_roots g.R.Rules.rules c.args.self.now g.D.Disk.state old due c.append.new.disk c.append.new.self (c.in-Err-HalfFull.ensures.no_call (cc)) (c.in-Err-HalfFull.ensures.same (cc)) carries

pub returns-in-Err-Disk-clause-roots : goal.returns-in-Err-Disk-clause-roots
returns-in-Err-Disk-clause-roots g c = λ whole honest due old new takes same carries. absurd (cc whole)

pub returns-in-Err-HalfFull-clause-carries : goal.returns-in-Err-HalfFull-clause-carries
returns-in-Err-HalfFull-clause-carries g c = λ honest whole old new takes same carries.
    let log = c.args.self.now in
    let is = c.in-Err-HalfFull.field-0-is in
    same_carries g.R.Rules.rules log g.D.Disk.state old c.append.new.disk c.append.new.self (c.in-Err-HalfFull.ensures.no_call (cc)) (c.in-Err-HalfFull.ensures.same (cc)) carries

pub returns-in-Ok-clause-stops : goal.returns-in-Ok-clause-stops
returns-in-Ok-clause-stops g c = λ honest old new takes carries. c.in-Ok.ensures.stops honest old new takes carries.carried

pub returns-in-Err-HalfFull-clause-stops : goal.returns-in-Err-HalfFull-clause-stops
returns-in-Err-HalfFull-clause-stops g c = λ honest old new takes carries. c.in-Err-HalfFull.ensures.stops honest old new takes carries.carried

pub returns-in-Err-Disk-clause-stops : goal.returns-in-Err-Disk-clause-stops
returns-in-Err-Disk-clause-stops g c = λ honest old new takes carries. c.in-Err-Disk.ensures.stops honest old new takes carries.carried

pub returns-in-Ok-clause-same_len : goal.returns-in-Ok-clause-same_len
returns-in-Ok-clause-same_len g c = λ honest world carries. c.in-Ok.ensures.same_len honest world carries.carried

pub returns-in-Err-HalfFull-clause-same_len : goal.returns-in-Err-HalfFull-clause-same_len
returns-in-Err-HalfFull-clause-same_len g c = λ honest world carries. c.in-Err-HalfFull.ensures.same_len honest world carries.carried

pub returns-in-Err-Disk-clause-same_len : goal.returns-in-Err-Disk-clause-same_len
returns-in-Err-Disk-clause-same_len g c = λ honest world carries. c.in-Err-Disk.ensures.same_len honest world carries.carried
