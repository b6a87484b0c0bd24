use Rattle.std.proofs.Common.{◌≡◌, List, ◌++◌, length, map, subst}
use Rattle.rr_disk.specs.Calls.{account, after_steps, StopsWithin}
use Rattle.rr_disk.specs.Disk.{counted_by}
use Rattle.rr_disk.proofs.CallLemmas.{on_err, stops_before}
use Rattle.rr_pages.specs.declared.chain.FreshPage.{FreshPage}
use Rattle.rr_log.specs.Formatting.Calls.{header_calls, zero_calls, page_call, root_calls}
use Rattle.rr_log.proofs.FormattingLemmas.Calls.{all_then, counted_closed, stops_then}
use Rattle.rr_log.proofs.formatting.writing.write_closed.Goals as goal

pub returns-in_err-put-clause-stops : goal.returns-in_err-put-clause-stops
returns-in_err-put-clause-stops g c =
    let pages = map page_call c.args.file.now.fresh.items in
    on_err c.from_residual.result
    (λ honest. stops_before (account g.D.Disk c.args.disk.now) (account g.D.Disk c.put.new.disk) header_calls (zero_calls ++ (pages ++ root_calls c.args.file.now.root)) (c.in_err-put.ensures.stops honest))

pub returns-in_err-write_zeros-clause-stops : goal.returns-in_err-write_zeros-clause-stops
returns-in_err-write_zeros-clause-stops g c =
    let pages = map page_call c.args.file.now.fresh.items in
    on_err c.from_residual-in_err-write_zeros.result
    (λ honest.
    let put = c.in_err-write_zeros.ensures.honest honest in
    stops_then (account g.D.Disk c.args.disk.now) (account g.D.Disk c.put.new.disk) (account g.D.Disk c.write_zeros.new.disk) header_calls (zero_calls ++ (pages ++ root_calls c.args.file.now.root)) (c.in_ok-put.ensures.calls put)
    (stops_before (account g.D.Disk c.put.new.disk) (account g.D.Disk c.write_zeros.new.disk) zero_calls (pages ++ root_calls c.args.file.now.root) (c.in_err-write_zeros.ensures.stops honest)))

pub returns-in_err-write_pages-clause-stops : goal.returns-in_err-write_pages-clause-stops
returns-in_err-write_pages-clause-stops g c =
    let pages = map page_call c.args.file.now.fresh.items in
    on_err c.from_residual-in_err-write_pages.result
    (λ honest.
    let zeroed = c.in_err-write_pages.ensures.honest honest in
    let put = c.in_ok-write_zeros.ensures.honest zeroed in
    let stops = subst (λ (fresh : List FreshPage). StopsWithin (account g.D.Disk c.write_zeros.new.disk) (map page_call fresh) (account g.D.Disk c.write_pages.new.disk)) c.deref.ensures.value (c.in_err-write_pages.ensures.stops honest) in
    stops_then (account g.D.Disk c.args.disk.now) (account g.D.Disk c.put.new.disk) (account g.D.Disk c.write_pages.new.disk) header_calls (zero_calls ++ (pages ++ root_calls c.args.file.now.root)) (c.in_ok-put.ensures.calls put)
    (stops_then (account g.D.Disk c.put.new.disk) (account g.D.Disk c.write_zeros.new.disk) (account g.D.Disk c.write_pages.new.disk) zero_calls (pages ++ root_calls c.args.file.now.root) (c.in_ok-write_zeros.ensures.calls zeroed)
    (stops_before (account g.D.Disk c.write_zeros.new.disk) (account g.D.Disk c.write_pages.new.disk) pages (root_calls c.args.file.now.root) stops)))

pub returns-in_err-fill-clause-stops : goal.returns-in_err-fill-clause-stops
returns-in_err-fill-clause-stops g c =
    let pages = map page_call c.args.file.now.fresh.items in
    on_err c.from_residual-in_err-fill.result
    (λ honest.
    let paged = c.in_err-fill.ensures.honest honest in
    let zeroed = c.in_ok-write_pages.ensures.honest paged in
    let put = c.in_ok-write_zeros.ensures.honest zeroed in
    let made = subst (λ (fresh : List FreshPage). account g.D.Disk c.write_pages.new.disk ≡ after_steps (account g.D.Disk c.write_zeros.new.disk) (map page_call fresh)) c.deref.ensures.value (c.in_ok-write_pages.ensures.calls paged) in
    stops_then (account g.D.Disk c.args.disk.now) (account g.D.Disk c.put.new.disk) (account g.D.Disk c.fill.new.disk) header_calls (zero_calls ++ (pages ++ root_calls c.args.file.now.root)) (c.in_ok-put.ensures.calls put)
    (stops_then (account g.D.Disk c.put.new.disk) (account g.D.Disk c.write_zeros.new.disk) (account g.D.Disk c.fill.new.disk) zero_calls (pages ++ root_calls c.args.file.now.root) (c.in_ok-write_zeros.ensures.calls zeroed)
    (stops_then (account g.D.Disk c.write_zeros.new.disk) (account g.D.Disk c.write_pages.new.disk) (account g.D.Disk c.fill.new.disk) pages (root_calls c.args.file.now.root) made (c.in_err-fill.ensures.stops honest))))

pub returns-clause-calls : goal.returns-clause-calls
returns-clause-calls g c = λ honest.
    let pages = map page_call c.args.file.now.fresh.items in
    let paged = c.in_ok-fill.ensures.honest honest in
    let zeroed = c.in_ok-write_pages.ensures.honest paged in
    let put = c.in_ok-write_zeros.ensures.honest zeroed in
    let made = subst (λ (fresh : List FreshPage). account g.D.Disk c.write_pages.new.disk ≡ after_steps (account g.D.Disk c.write_zeros.new.disk) (map page_call fresh)) c.deref.ensures.value (c.in_ok-write_pages.ensures.calls paged) in
    all_then (account g.D.Disk c.args.disk.now) (account g.D.Disk c.put.new.disk) (account g.D.Disk c.fill.new.disk) header_calls (zero_calls ++ (pages ++ root_calls c.args.file.now.root)) (c.in_ok-put.ensures.calls put)
    (all_then (account g.D.Disk c.put.new.disk) (account g.D.Disk c.write_zeros.new.disk) (account g.D.Disk c.fill.new.disk) zero_calls (pages ++ root_calls c.args.file.now.root) (c.in_ok-write_zeros.ensures.calls zeroed)
    (all_then (account g.D.Disk c.write_zeros.new.disk) (account g.D.Disk c.write_pages.new.disk) (account g.D.Disk c.fill.new.disk) pages (root_calls c.args.file.now.root) made (c.in_ok-fill.ensures.calls honest)))

pub returns-clause-all_writes : goal.returns-clause-all_writes
returns-clause-all_writes g c =
    let pages = subst (λ (fresh : List FreshPage). g.D.Disk.write_count c.write_pages.new.disk ≡ counted_by (length fresh) (g.D.Disk.write_count c.write_zeros.new.disk)) c.deref.ensures.value c.in_ok-write_pages.ensures.all_writes in
    counted_closed (length c.args.file.now.fresh.items) (g.D.Disk.write_count c.args.disk.now) (g.D.Disk.write_count c.put.new.disk) (g.D.Disk.write_count c.write_zeros.new.disk) (g.D.Disk.write_count c.write_pages.new.disk) (g.D.Disk.write_count c.fill.new.disk)
    c.put.ensures.writes c.in_ok-write_zeros.ensures.all_writes pages c.fill.ensures.writes
