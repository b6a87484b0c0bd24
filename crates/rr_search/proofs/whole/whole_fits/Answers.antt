use Rattle.std.proofs.Common.{◌≡◌, ◌+◌, ◌≤◌, sym, ◌∙◌, arith}
use Rattle.rr_search.specs.Whole.{whole_size}
use Rattle.rr_search.proofs.WholeLemmas.{whole_size-none, whole_size-next, fits_not, fits_tested}
use Rattle.rr_search.proofs.whole.whole_fits.Goals as goal

pub loop-link-init : goal.loop-link-init
loop-link-init c = sym (whole_size-none c.args.trains)

pub returns-then-limit-size : goal.returns-then-limit-size
returns-then-limit-size c =
    fits_not c.args.trains c.loop-link.link c.args.links c.args.limit c.loop-link.size c.loop-link.invariant (omega arith) (omega arith)

pub loop-link-preserved : goal.loop-link-preserved
loop-link-preserved c =
    let next = whole_size-next c.args.trains c.loop-link.link in
    let now = c.loop-link.invariant in
    let above = c.size_above-size.ensures in
    rw (above, next, ← now) Rattle.std.proofs.Common.refl

pub returns : goal.returns
returns c =
    let same : c.loop-link.link ≡ c.args.links = omega arith in
    fits_tested c.args.trains c.loop-link.link c.args.links c.args.limit c.loop-link.size c.loop-link.invariant same
