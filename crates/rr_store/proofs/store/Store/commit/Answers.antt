use Rattle.std.proofs.Common.{◌∙◌, sym, refl}
use Rattle.std.proofs.lemmas.Result.{err_from_is_err_and}
use Rattle.rr_store.proofs.Commits.{commits, commits_again, commits_not}
use Rattle.rr_store.proofs.store.Store.commit.Goals as goal

pub returns-then-is_broken : goal.returns-then-is_broken
returns-then-is_broken g c =
    commits_again g.D.Disk.Honest g.D.Disk.Works g.D.Disk.state g.D.Disk.past g.D.Disk.fault_count g.D.Disk.write_count g.D.Disk.sync_count
    c.args.self.now _ c.args.stamp c.args.name.now c.args.request.now refl refl (sym c.is_broken.ensures ∙ c.if-is_broken.true)

pub returns-in_err-taken : goal.returns-in_err-taken
returns-in_err-taken g c =
    let p = err_from_is_err_and c.from_residual.result c.from_residual.ensures.1 in
    rw (p.1, p.2) (commits_not g.D.Disk.Honest g.D.Disk.Works g.D.Disk.state g.D.Disk.past g.D.Disk.fault_count g.D.Disk.write_count g.D.Disk.sync_count
    c.args.self.now _ c.args.stamp c.args.name.now c.args.request.now refl (c.requires.name, c.requires.request) (sym c.is_broken.ensures ∙ c.if-is_broken.false) c.in_err-taken.ensures.played c.in_err-taken.ensures.snapshots
    c.in_err-taken.ensures.kit c.in_err-taken.ensures.err c.in_err-taken.field-0.0 c.in_err-taken.ensures.verdict c.in_err-taken.ensures.judged c.in_err-taken.ensures.plain c.in_err-taken.ensures.kept)

pub returns : goal.returns
returns g c =
    commits g.D.Disk.Honest g.D.Disk.Works g.D.Disk.state g.D.Disk.past g.D.Disk.fault_count g.D.Disk.write_count g.D.Disk.sync_count
    c.args.self.now _ c.args.stamp c.args.name.now c.args.request.now refl (c.requires.name, c.requires.request) (sym c.is_broken.ensures ∙ c.if-is_broken.false) c.in_ok-taken.ensures.played c.in_ok-taken.ensures.snapshots
    c.in_ok-taken.ensures.kit c.in_ok-taken.taken.stamp c.in_ok-taken.ensures.verdict c.in_ok-taken.ensures.judged c.in_ok-taken.ensures.plain c.in_ok-taken.ensures.world c.in_ok-taken.ensures.stamp c.in_ok-taken.ensures.kept.0
