use Rattle.std.proofs.Common.{not}
use Rattle.rr_pages.specs.Roots.{root_gate, root_bytes}
use Rattle.rr_pages.proofs.Moments.{flip_shuts, flip_fills, flip_opens, flipped}
use Rattle.rr_pages.proofs.root.Roots.flip.Goals as goal

pub returns-in_err-close-clause-any_moment : goal.returns-in_err-close-clause-any_moment
returns-in_err-close-clause-any_moment g c = λ honest.
    flip_shuts (g.D.Disk.past c.args.disk.now) (g.D.Disk.state c.args.disk.now) (root_gate (not c.args.self.now.taken)) (root_bytes c.args.root.now) (c.in_err-close.ensures.any_moment honest)

pub returns-in_err-fill-clause-any_moment : goal.returns-in_err-fill-clause-any_moment
returns-in_err-fill-clause-any_moment g c = λ honest.
    let closed = c.in_err-fill.ensures.honest honest in
    flip_fills (g.D.Disk.past c.args.disk.now) (g.D.Disk.state c.args.disk.now) (root_gate (not c.args.self.now.taken)) (root_bytes c.args.root.now)
    (c.in_ok-close.ensures.any_moment closed) (c.in_ok-close.ensures.done closed) (c.in_err-fill.ensures.any_moment honest)

pub returns-in_err-open-clause-any_moment : goal.returns-in_err-open-clause-any_moment
returns-in_err-open-clause-any_moment g c = λ honest.
    let filled = c.in_err-open.ensures.honest honest in
    let closed = c.in_ok-fill.ensures.honest filled in
    flip_opens (g.D.Disk.past c.args.disk.now) (g.D.Disk.state c.args.disk.now) (root_gate (not c.args.self.now.taken)) (root_bytes c.args.root.now)
    (c.in_ok-close.ensures.any_moment closed) (c.in_ok-close.ensures.done closed) (c.in_ok-fill.ensures.any_moment filled) (c.in_ok-fill.ensures.done filled) (c.in_err-open.ensures.any_moment honest)

pub returns-clause-any_moment : goal.returns-clause-any_moment
returns-clause-any_moment g c = λ honest.
    let filled = c.in_ok-open.ensures.honest honest in
    let closed = c.in_ok-fill.ensures.honest filled in
    flip_opens (g.D.Disk.past c.args.disk.now) (g.D.Disk.state c.args.disk.now) (root_gate (not c.args.self.now.taken)) (root_bytes c.args.root.now)
    (c.in_ok-close.ensures.any_moment closed) (c.in_ok-close.ensures.done closed) (c.in_ok-fill.ensures.any_moment filled) (c.in_ok-fill.ensures.done filled) (c.in_ok-open.ensures.any_moment honest)

pub returns-clause-done : goal.returns-clause-done
returns-clause-done g c = λ honest.
    let filled = c.in_ok-open.ensures.honest honest in
    let closed = c.in_ok-fill.ensures.honest filled in
    flipped (g.D.Disk.past c.args.disk.now) (g.D.Disk.state c.args.disk.now) (root_gate (not c.args.self.now.taken)) (root_bytes c.args.root.now)
    (c.in_ok-close.ensures.done closed) (c.in_ok-fill.ensures.done filled) (c.in_ok-open.ensures.done honest)
