use Rattle.std.proofs.Common.{◌≡◌, ℕ, ◌+◌, List, length, ◌∙◌, ap, subst, arith}
use Rattle.std.specs.Rc.{rc_slice_items}
use Rattle.rr_checkpoint.specs.Writer.{free_of}
use Rattle.rr_pages.specs.FreePages.{present_of, coming_of}
use Rattle.rr_pages.specs.Writing.{IsLaid}
use Rattle.rr_pages.specs.Laying.{pages_for}
use Rattle.rr_checkpoint.specs.Plan.Snapshots.{snapshot_of}
use Rattle.rr_checkpoint.proofs.PlanLemmas.LaidSnapshots.{cut_pages, one_is_laid}
use Rattle.rr_checkpoint.proofs.plan.laying.lay_snapshot.Goals as goal

pub returns-clause-placed : goal.returns-clause-placed
returns-clause-placed g c =
    let writer = c.args.writer.now in
    let old = c.args.fresh.now.items in
    let new = c.lay.new.fresh.items in
    let snapshot = snapshot_of c.args.snapshot.now in
    let is : IsLaid (present_of (free_of writer)) (coming_of (free_of writer)) (coming_of (free_of c.lay.new.self)) snapshot.bytes old new c.in_ok-lay.field-0 =
    subst (λ (bytes : List ℕ). IsLaid (present_of (free_of writer)) (coming_of (free_of writer)) (coming_of (free_of c.lay.new.self)) bytes old new c.in_ok-lay.field-0) c.deref.ensures.value c.in_ok-lay.ensures.laid in
    let count : length new ≡ length old + pages_for (length snapshot.bytes) = c.in_ok-lay.ensures.count ∙ ap (λ (bytes : List ℕ). length old + pages_for (length bytes)) c.deref.ensures.value in
    let before : c.len-before.result ≡ length old = omega (arith, c.len-before.ensures, c.args.fresh.now.ok) in
    let pages : c.in_ok-pages.pages.items ≡ is.pages =
    c.in_ok-pages.ensures.pages ∙ cut_pages old new c.deref-2.result.now c.len-before.result is.pages is.pieces c.deref-2.ensures.value before is.fit.each is.fresh in
    let bytes : rc_slice_items c.in_ok-bytes.bytes ≡ snapshot.bytes = c.in_ok-bytes.ensures.cases in
    one_is_laid (present_of (free_of writer)) (coming_of (free_of writer)) (coming_of (free_of c.lay.new.self)) old new snapshot c.in_ok-lay.field-0
    (record { table = c.args.snapshot.now.table; kept = c.args.snapshot.now.kept; pages = c.in_ok-pages.pages; bytes = c.in_ok-bytes.bytes })
    is count pages (λ i. record { table = c.args.snapshot.now.table; kept = c.args.snapshot.now.kept; bytes = bytes i })
