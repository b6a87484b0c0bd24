use Rattle.std.proofs.Common.{◌∷◌, [], length, ap}
use Rattle.rr_disk.specs.Calls.{Account, Write, Sync, account}
use Rattle.rr_disk.proofs.CallLemmas.{on_err, stops_before}
use Rattle.rr_disk.proofs.MomentLemmas.{joins}
use Rattle.rr_log.specs.Formatting.Calls.{closing}
use Rattle.rr_log.proofs.FormattingLemmas.Calls.{all_then, counted_laid, stops_then}
use Rattle.rr_log.proofs.FormattingLemmas.Moments.{closing_left, closing_stopped, formatted_each, gate_left, none_left, whole_pages}
use Rattle.rr_log.proofs.formatting.writing.write_new_file.Goals as goal

pub returns-in_err-write_closed-clause-any_moment : goal.returns-in_err-write_closed-clause-any_moment
returns-in_err-write_closed-clause-any_moment g c = λ honest unused world is.
    let root = c.args.file.now.root in
    let fresh = c.args.file.now.fresh.items in
    let stays = g.met.D.Disk.content_may_stay c.args.disk.now (c.in_err-write_closed.ensures.honest honest) in
    none_left g.R.Rules.rules root fresh world is
    (closing_stopped (account g.D.Disk c.args.disk.now) unused.empty root fresh is.spare (record { stays = stays; each = unused.none }) (account g.D.Disk c.write_closed.new.disk) (c.in_err-write_closed.ensures.stops honest))

pub returns-in_err-write_closed-clause-stops : goal.returns-in_err-write_closed-clause-stops
returns-in_err-write_closed-clause-stops g c =
    on_err c.from_residual.result
    (λ honest.
    stops_before (account g.D.Disk c.args.disk.now) (account g.D.Disk c.write_closed.new.disk) (closing c.args.file.now.root c.args.file.now.fresh.items) (Write 0 (0xa5 ∷ []) ∷ Sync ∷ [])
    (c.in_err-write_closed.ensures.stops honest))

pub returns-in_err-write_closed-clause-device : goal.returns-in_err-write_closed-clause-device
returns-in_err-write_closed-clause-device g c =
    on_err c.from_residual.result
    (λ works world is. c.in_err-write_closed.ensures.refused works (whole_pages g.R.Rules.rules c.args.file.now.root c.args.file.now.fresh.items world is))

pub returns-in_err-open-clause-any_moment : goal.returns-in_err-open-clause-any_moment
returns-in_err-open-clause-any_moment g c = λ honest unused world is.
    let disk = c.args.disk.now in
    let old = account g.D.Disk disk in
    let root = c.args.file.now.root in
    let fresh = c.args.file.now.fresh.items in
    let closed = c.in_err-open.ensures.honest honest in
    let calls = c.in_ok-write_closed.ensures.calls closed in
    let stays = g.met.D.Disk.content_may_stay disk (c.in_ok-write_closed.ensures.honest closed) in
    joins (none_left g.R.Rules.rules root fresh world is (closing_left old unused.empty root fresh is.spare (record { stays = stays; each = unused.none }) (account g.D.Disk c.write_closed.new.disk) calls))
    (gate_left g.R.Rules.rules root fresh world is old unused.empty (g.D.Disk.past c.write_closed.new.disk) (g.D.Disk.state c.write_closed.new.disk) (ap (λ (account : Account). account.state) calls) (c.in_err-open.ensures.any_moment honest))

pub returns-in_err-open-clause-stops : goal.returns-in_err-open-clause-stops
returns-in_err-open-clause-stops g c =
    on_err c.from_residual-in_err-open.result
    (λ honest.
    stops_then (account g.D.Disk c.args.disk.now) (account g.D.Disk c.write_closed.new.disk) (account g.D.Disk c.open.new.disk) (closing c.args.file.now.root c.args.file.now.fresh.items) (Write 0 (0xa5 ∷ []) ∷ Sync ∷ [])
    (c.in_ok-write_closed.ensures.calls (c.in_err-open.ensures.honest honest)) (c.in_err-open.ensures.stops honest))

pub returns-clause-calls : goal.returns-clause-calls
returns-clause-calls g c = λ honest.
    all_then (account g.D.Disk c.args.disk.now) (account g.D.Disk c.write_closed.new.disk) (account g.D.Disk c.open.new.disk) (closing c.args.file.now.root c.args.file.now.fresh.items) (Write 0 (0xa5 ∷ []) ∷ Sync ∷ [])
    (c.in_ok-write_closed.ensures.calls (c.in_ok-open.ensures.honest honest)) (c.in_ok-open.ensures.calls honest)

pub returns-clause-any_moment : goal.returns-clause-any_moment
returns-clause-any_moment g c = λ honest unused world is.
    let disk = c.args.disk.now in
    let old = account g.D.Disk disk in
    let root = c.args.file.now.root in
    let fresh = c.args.file.now.fresh.items in
    let closed = c.in_ok-open.ensures.honest honest in
    let calls = c.in_ok-write_closed.ensures.calls closed in
    let stays = g.met.D.Disk.content_may_stay disk (c.in_ok-write_closed.ensures.honest closed) in
    joins (none_left g.R.Rules.rules root fresh world is (closing_left old unused.empty root fresh is.spare (record { stays = stays; each = unused.none }) (account g.D.Disk c.write_closed.new.disk) calls))
    (gate_left g.R.Rules.rules root fresh world is old unused.empty (g.D.Disk.past c.write_closed.new.disk) (g.D.Disk.state c.write_closed.new.disk) (ap (λ (account : Account). account.state) calls) (c.in_ok-open.ensures.any_moment honest))

pub returns-clause-each : goal.returns-clause-each
returns-clause-each g c = λ honest empty world is.
    let closed = c.in_ok-open.ensures.honest honest in
    formatted_each g.R.Rules.rules c.args.file.now.root c.args.file.now.fresh.items world is (account g.D.Disk c.args.disk.now) empty
    (g.D.Disk.state c.write_closed.new.disk) (g.D.Disk.state c.open.new.disk) (ap (λ (account : Account). account.state) (c.in_ok-write_closed.ensures.calls closed)) (c.in_ok-open.ensures.done honest)

pub returns-clause-all_writes : goal.returns-clause-all_writes
returns-clause-all_writes g c =
    counted_laid (length c.args.file.now.fresh.items) (g.D.Disk.write_count c.args.disk.now) (g.D.Disk.write_count c.write_closed.new.disk) (g.D.Disk.write_count c.open.new.disk) c.in_ok-write_closed.ensures.all_writes c.open.ensures.writes
