use Rattle.std.proofs.Common.{refl}
use Rattle.std.proofs.lemmas.Result.{err_from_is_err_and}
use Rattle.rr_tables.specs.Records.Words.{in_words}
use Rattle.rr_store.specs.declared.store.Store.{Store}
use Rattle.rr_store.specs.Holding.{held_of, lent_of}
use Rattle.rr_store.specs.Named.{LendsNamed}
use Rattle.rr_store.proofs.NamedRoots.{images_named, none_coming, whole_named}
use Rattle.rr_store.proofs.Standing.{carried_lent}
use Rattle.rr_store.proofs.Steps.{named_by_steps, named_by_whole, steps_done, steps_refused}
use Rattle.rr_store.proofs.store.Store.checkpoint.Given.{Over}
use Rattle.rr_store.proofs.store.Store.checkpoint.Goals.{In_ok-checkpoint}
use Rattle.rr_store.proofs.store.Store.checkpoint.Goals as goal

pub returns-in_err-checkpoint-clause-steps : goal.returns-in_err-checkpoint-clause-steps
returns-in_err-checkpoint-clause-steps g c =
    let p = err_from_is_err_and c.from_residual.result c.from_residual.ensures.1 in
    rw (p.1, p.2) (steps_refused g.D.Disk.Honest g.D.Disk.Works g.D.Disk.state g.D.Disk.past g.D.Disk.fault_count c.args.self.now _ refl _ c.in_err-checkpoint.field-0.0
    (record { stops = c.in_err-checkpoint.ensures.stops; carries = c.in_err-checkpoint.ensures.carries; named = named_by_steps g.D.Disk.Honest g.D.Disk.Works g.D.Disk.state g.D.Disk.past g.D.Disk.fault_count c.args.self.now.journal.file (lent_of c.args.self.now) c.checkpoint.new.self c.in_err-checkpoint.ensures.roots; number = c.in_err-checkpoint.ensures.number; again = c.in_err-checkpoint.ensures.again; untouched = c.in_err-checkpoint.ensures.untouched; broken = c.in_err-checkpoint.ensures.broken; full = c.in_err-checkpoint.ensures.full; first = c.in_err-checkpoint.ensures.first; unchanged = c.in_err-checkpoint.ensures.unchanged; room = c.in_err-checkpoint.ensures.room; fault = c.in_err-checkpoint.ensures.fault; honest = c.in_err-checkpoint.ensures.honest; works = c.in_err-checkpoint.ensures.works; device = c.in_err-checkpoint.ensures.device }))

pub returns-clause-steps : goal.returns-clause-steps
returns-clause-steps g c =
    steps_done g.D.Disk.Honest g.D.Disk.Works g.D.Disk.state g.D.Disk.past g.D.Disk.fault_count c.args.self.now _ refl tt
    (record { stops = c.in_ok-checkpoint.ensures.stops; carries = c.in_ok-checkpoint.ensures.carries; named = named_by_whole g.D.Disk.Honest g.D.Disk.Works g.D.Disk.state g.D.Disk.past g.D.Disk.fault_count c.args.self.now.journal.file (lent_of c.args.self.now) c.checkpoint.new.self c.in_ok-checkpoint.ensures.takes_root c.in_ok-checkpoint.ensures.left c.in_ok-checkpoint.ensures.rests; number = c.in_ok-checkpoint.ensures.number; again = c.in_ok-checkpoint.ensures.again; untouched = c.in_ok-checkpoint.ensures.untouched; broken = c.in_ok-checkpoint.ensures.broken; full = c.in_ok-checkpoint.ensures.full; first = c.in_ok-checkpoint.ensures.first; unchanged = c.in_ok-checkpoint.ensures.unchanged; room = c.in_ok-checkpoint.ensures.room; fault = c.in_ok-checkpoint.ensures.fault; honest = c.in_ok-checkpoint.ensures.honest; works = c.in_ok-checkpoint.ensures.works; device = tt })

pub returns-clause-renews : goal.returns-clause-renews
returns-clause-renews g c = λ honest texts carries.
    c.in_ok-checkpoint.ensures.renews honest (in_words texts (held_of c.args.self.now).tables) (carried_lent g.D.Disk.state c.args.self.now texts carries) carries.file

pub returns-clause-whole : goal.returns-clause-whole
returns-clause-whole g c = λ none honest texts carries.
    c.in_ok-checkpoint.ensures.whole none honest (in_words texts (held_of c.args.self.now).tables) (carried_lent g.D.Disk.state c.args.self.now texts carries) carries.file

pub returns-clause-root : goal.returns-clause-root
returns-clause-root g c = λ honest texts carries.
    c.in_ok-checkpoint.ensures.root honest (in_words texts (held_of c.args.self.now).tables) (carried_lent g.D.Disk.state c.args.self.now texts carries) carries.file

-- the store behind it
abbrev behind : (g : Over) → In_ok-checkpoint g → Store g.row.D.Denot
behind g c = record c.args.self.now { journal = record c.args.self.now.journal { file = c.checkpoint.new.self } }

pub returns-clause-names : goal.returns-clause-names
returns-clause-names g c = λ rests none honest texts carries named short.
    let lends : LendsNamed c.args.self.now = record { snapshots = named; short = short } in
    images_named g.D.Disk.state (behind g c) texts
    (whole_named g.D.Disk.state c.args.self.now (behind g c) texts refl (c.in_ok-checkpoint.ensures.takes_root honest) c.in_ok-checkpoint.ensures.left c.in_ok-checkpoint.ensures.rests carries (λ still. lends)
    (none_coming g.D.Disk.state c.args.self.now texts rests none carries))

pub returns-clause-takes_named : goal.returns-clause-takes_named
returns-clause-takes_named g c = λ honest texts carries may names.
    whole_named g.D.Disk.state c.args.self.now (behind g c) texts refl (c.in_ok-checkpoint.ensures.takes_root honest) c.in_ok-checkpoint.ensures.left c.in_ok-checkpoint.ensures.rests carries may names

pub returns-clause-grows : goal.returns-clause-grows
returns-clause-grows g c = λ honest texts carries.
    c.in_ok-checkpoint.ensures.grows honest (in_words texts (held_of c.args.self.now).tables) (carried_lent g.D.Disk.state c.args.self.now texts carries) carries.file

pub returns-in_err-checkpoint-clause-grows_so_far : goal.returns-in_err-checkpoint-clause-grows_so_far
returns-in_err-checkpoint-clause-grows_so_far g c =
    let p = err_from_is_err_and c.from_residual.result c.from_residual.ensures.1 in
    rw p.1 (λ honest texts carries.
    c.in_err-checkpoint.ensures.grows_so_far honest (in_words texts (held_of c.args.self.now).tables) (carried_lent g.D.Disk.state c.args.self.now texts carries) carries.file)
