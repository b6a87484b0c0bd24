use Rattle.std.proofs.Common.{◌∙◌, sym, subst}
use Rattle.rr_kit.specs.declared.kit.Kit.{Kit}
use Rattle.rr_kit.specs.Kits.{SpellsKit}
use Rattle.rr_store.proofs.Openings.{carries_store, comes_store, left_by, names_store, opened_store, played_store, replayed_store, snapshots_store}
use Rattle.rr_store.proofs.opening.open.Goals as goal

pub returns-in-Ok-clause-opened : goal.returns-in-Ok-clause-opened
returns-in-Ok-clause-opened g c =
    opened_store g.D.Disk.Honest g.D.Disk.state g.D.Disk.past c.args.disk c.find.new.disk c.begin.result c.in-Ok.found
    c.begin.ensures.disk c.begin.ensures.kit c.begin.ensures.tables c.in-Ok.ensures.found c.in-Ok.ensures.synced

pub returns-in-Ok-clause-carries : goal.returns-in-Ok-clause-carries
returns-in-Ok-clause-carries g c =
    carries_store g.D.Disk.Honest g.D.Disk.state g.D.Disk.past c.args.disk c.find.new.disk c.begin.result c.in-Ok.found
    c.begin.ensures.disk c.begin.ensures.kit c.begin.ensures.tables c.in-Ok.ensures.found
    c.begin.ensures.carries c.in-Ok.ensures.resting c.in-Ok.ensures.place c.in-Ok.ensures.synced c.in-Ok.ensures.goes_on

pub returns-in-Err-clause-left : goal.returns-in-Err-clause-left
returns-in-Err-clause-left g c = λ honest.
    left_by (g.D.Disk.past c.args.disk) (g.D.Disk.state c.args.disk) (g.D.Disk.past c.find.new.disk) (g.D.Disk.state c.find.new.disk) c.in-Err.fault
    (c.in-Err.ensures.left honest) (c.in-Err.ensures.refused honest)

pub returns-in-Ok-clause-kit : goal.returns-in-Ok-clause-kit
returns-in-Ok-clause-kit g c =
    let found = c.in-Ok.ensures.kit in
    (found.0, subst (λ (k : Kit). SpellsKit found.0 k) (sym c.begin.ensures.kit) found.1)

pub returns-in-Ok-clause-played : goal.returns-in-Ok-clause-played
returns-in-Ok-clause-played g c =
    played_store g.D.Disk.Honest g.D.Disk.state g.D.Disk.past c.args.disk c.find.new.disk c.begin.result c.in-Ok.found
    c.begin.ensures.disk c.begin.ensures.kit c.begin.ensures.tables c.in-Ok.ensures.found c.begin.ensures.played

pub returns-in-Ok-clause-snapshots : goal.returns-in-Ok-clause-snapshots
returns-in-Ok-clause-snapshots g c =
    snapshots_store g.D.Disk.Honest g.D.Disk.state g.D.Disk.past c.args.disk c.find.new.disk c.begin.result c.in-Ok.found
    c.begin.ensures.disk c.begin.ensures.kit c.begin.ensures.tables c.in-Ok.ensures.found c.begin.ensures.snapshots

pub returns-in-Ok-clause-comes : goal.returns-in-Ok-clause-comes
returns-in-Ok-clause-comes g c =
    comes_store g.D.Disk.Honest g.D.Disk.state g.D.Disk.past c.args.disk c.find.new.disk c.begin.result c.in-Ok.found
    c.begin.ensures.disk c.begin.ensures.kit c.begin.ensures.tables c.in-Ok.ensures.found
    (c.begin.ensures.resting ∙ c.in-Ok.ensures.resting) c.begin.ensures.base c.in-Ok.ensures.synced (returns-in-Ok-clause-carries g c)

pub returns-in-Ok-clause-names : goal.returns-in-Ok-clause-names
returns-in-Ok-clause-names g c =
    names_store g.D.Disk.Honest g.D.Disk.state g.D.Disk.past c.args.disk c.find.new.disk c.begin.result c.in-Ok.found
    c.begin.ensures.disk c.begin.ensures.kit c.begin.ensures.tables c.in-Ok.ensures.found
    (c.begin.ensures.resting ∙ c.in-Ok.ensures.resting) c.begin.ensures.base c.in-Ok.ensures.synced (returns-in-Ok-clause-carries g c)

pub returns-in-Ok-clause-replayed : goal.returns-in-Ok-clause-replayed
returns-in-Ok-clause-replayed g c =
    replayed_store g.D.Disk.Honest g.D.Disk.state g.D.Disk.past c.args.disk c.find.new.disk c.begin.result c.in-Ok.found
    c.begin.ensures.disk c.begin.ensures.kit c.begin.ensures.tables c.in-Ok.ensures.found c.begin.ensures.replayed c.in-Ok.ensures.replayed
