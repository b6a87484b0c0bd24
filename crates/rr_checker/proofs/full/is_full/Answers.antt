use Rattle.std.proofs.Common.{sym, ◌∙◌, length}
use Rattle.rr_checker.proofs.FullLemmas.{open_left, stray_left, decided_all, none_stray, full_decided}
use Rattle.rr_checker.proofs.full.is_full.Goals as goal

pub returns-then-has_open : goal.returns-then-has_open
returns-then-has_open c = open_left c.args.net.now c.args.claim c.args.fates.now (sym c.has_open.ensures ∙ c.if-has_open.true)

pub returns-then-has_stray : goal.returns-then-has_stray
returns-then-has_stray c =
    stray_left c.args.net.now c.args.fates.now c.args.claim (sym c.has_open.ensures ∙ c.if-has_open.false)
    (rw c.trains.ensures at (sym c.has_stray.ensures ∙ c.if-has_stray.true))

pub returns-in-Some : goal.returns-in-Some
returns-in-Some c =
    let decided = decided_all c.args.fates.now (sym c.has_open.ensures ∙ c.if-has_open.false) in
    let inside = none_stray c.args.fates.now (length c.args.net.now.trains) (rw c.trains.ensures at (sym c.has_stray.ensures ∙ c.if-has_stray.false)) in
    rw c.is_some.ensures (full_decided c.args.net.now c.args.fates.now c.in-Some.all.items (rw c.in-Some.is at (c.in_ok-run_over.ensures {u = tt})) decided inside
    c.args.claim c.left_of_all.result (rw c.deref.ensures.value at c.left_of_all.ensures))
