use Rattle.std.proofs.Common.{Err, refl}
use Rattle.std.proofs.lemmas.Result.{err_from_is_err_and}
use Rattle.rr_checkpoint.specs.declared.writer.Tick.{Tick}
use Rattle.rr_log.proofs.Carried.{device_more}
use Rattle.rr_tables.specs.Records.Words.{in_words}
use Rattle.rr_store.specs.Holding.{held_of, lent_of}
use Rattle.rr_store.proofs.Steps.{named_by_steps, steps_done, steps_refused, stops_within}
use Rattle.rr_store.proofs.store.Store.tick.Goals as goal

pub returns-in_err-tick-clause-steps : goal.returns-in_err-tick-clause-steps
returns-in_err-tick-clause-steps g c =
    let p = err_from_is_err_and c.from_residual.result c.from_residual.ensures.1 in
    rw (p.1, p.2) (steps_refused g.D.Disk.Honest g.D.Disk.Works g.D.Disk.state g.D.Disk.past g.D.Disk.fault_count c.args.self.now _ refl _ c.in_err-tick.field-0.0
    (record { stops = λ h world lent carries. stops_within c.args.self.now.journal.file (lent_of c.args.self.now) carries.carried.layout carries.carried.holding world (c.in_err-tick.ensures.stops h world carries); carries = c.in_err-tick.ensures.carries; named = named_by_steps g.D.Disk.Honest g.D.Disk.Works g.D.Disk.state g.D.Disk.past g.D.Disk.fault_count c.args.self.now.journal.file (lent_of c.args.self.now) c.tick.new.self c.in_err-tick.ensures.roots; number = c.in_err-tick.ensures.number; again = c.in_err-tick.ensures.again; untouched = c.in_err-tick.ensures.untouched; broken = c.in_err-tick.ensures.broken; full = c.in_err-tick.ensures.full; first = c.in_err-tick.ensures.first; unchanged = c.in_err-tick.ensures.unchanged; room = c.in_err-tick.ensures.room; fault = c.in_err-tick.ensures.fault; honest = c.in_err-tick.ensures.honest; works = c.in_err-tick.ensures.works; device = device_more {T = Tick} (Err c.in_err-tick.field-0.0) (λ device h world lent carries. device h world carries) c.in_err-tick.ensures.device }))

pub returns-clause-steps : goal.returns-clause-steps
returns-clause-steps g c =
    steps_done g.D.Disk.Honest g.D.Disk.Works g.D.Disk.state g.D.Disk.past g.D.Disk.fault_count c.args.self.now _ refl c.in_ok-tick.tick
    (record { stops = λ h world lent carries. stops_within c.args.self.now.journal.file (lent_of c.args.self.now) carries.carried.layout carries.carried.holding world (c.in_ok-tick.ensures.stops h world carries); carries = c.in_ok-tick.ensures.carries; named = named_by_steps g.D.Disk.Honest g.D.Disk.Works g.D.Disk.state g.D.Disk.past g.D.Disk.fault_count c.args.self.now.journal.file (lent_of c.args.self.now) c.tick.new.self c.in_ok-tick.ensures.roots; number = c.in_ok-tick.ensures.number; again = c.in_ok-tick.ensures.again; untouched = c.in_ok-tick.ensures.untouched; broken = c.in_ok-tick.ensures.broken; full = c.in_ok-tick.ensures.full; first = c.in_ok-tick.ensures.first; unchanged = c.in_ok-tick.ensures.unchanged; room = c.in_ok-tick.ensures.room; fault = c.in_ok-tick.ensures.fault; honest = c.in_ok-tick.ensures.honest; works = c.in_ok-tick.ensures.works; device = tt })

pub returns-clause-fits : goal.returns-clause-fits
returns-clause-fits g c = λ none due full. due (record { none_left = none; none_due = λ is. c.in_ok-tick.ensures.fits none is full })

pub returns-clause-root : goal.returns-clause-root
returns-clause-root g c = λ honest texts carries. c.in_ok-tick.ensures.root honest (in_words texts (held_of c.args.self.now).tables) carries.file

pub returns-in_err-tick-clause-grows : goal.returns-in_err-tick-clause-grows
returns-in_err-tick-clause-grows g c = λ honest texts carries. c.in_err-tick.ensures.grows honest (in_words texts (held_of c.args.self.now).tables) carries.file

pub returns-clause-grows : goal.returns-clause-grows
returns-clause-grows g c = λ honest texts carries. c.in_ok-tick.ensures.grows honest (in_words texts (held_of c.args.self.now).tables) carries.file
