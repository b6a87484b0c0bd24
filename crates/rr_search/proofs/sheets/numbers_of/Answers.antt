use Rattle.std.proofs.Common.{◌+◌, ◌^◌, ◌<◌, get_or, length, ◌∙◌, arith}
use Rattle.rr_search.proofs.FoundLemmas.{fits_at}
use Rattle.rr_search.proofs.sheets.numbers_of.Goals as goal

pub overflow_add-link : goal.overflow_add-link
overflow_add-link c =
    let inside : c.loop-link.link-index < length c.deref-link-items.result.now = omega arith in
    let small : get_or c.deref-link-items.result.now c.loop-link.link-index 0 + 1 < 2 ^ 64 =
    fits_at c.args.links.now c.deref-link-items.result.now (c.deref-link-items.ensures.value ∙ c.in_ok-ordered.ensures {u = tt}) c.requires c.loop-link.link-index inside in
    omega arith
