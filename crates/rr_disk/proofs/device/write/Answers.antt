use Rattle.std.proofs.Common.{inl}
use Rattle.rr_disk.proofs.CallLemmas.{on_err}
use Rattle.rr_disk.proofs.WriteLemmas.{write_fails, write_done}
use Rattle.rr_disk.proofs.device.write.Goals as goal

pub returns-in_err-write_at-clause-any_moment : goal.returns-in_err-write_at-clause-any_moment
returns-in_err-write_at-clause-any_moment g c = λ honest.
    write_fails (g.D.Disk.past c.args.disk.now) (g.D.Disk.state c.args.disk.now) c.args.at (c.in_err-write_at.ensures.failed honest)

pub returns-clause-any_moment : goal.returns-clause-any_moment
returns-clause-any_moment g c = λ honest.
    write_done (g.D.Disk.past c.args.disk.now) (g.D.Disk.state c.args.disk.now) c.args.at c.args.bytes.now (c.in_ok-write_at.ensures.passed honest) (c.in_ok-write_at.ensures.written honest)

pub returns-in_err-write_at-clause-stops : goal.returns-in_err-write_at-clause-stops
returns-in_err-write_at-clause-stops g c =
    on_err c.from_residual.result (λ honest. inl (c.in_err-write_at.ensures.failed honest, c.in_err-write_at.ensures.writes, c.in_err-write_at.ensures.syncs))
