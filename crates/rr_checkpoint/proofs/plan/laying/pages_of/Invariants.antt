use Rattle.std.proofs.Common.{◌≡◌, map, take}
use Rattle.rr_pages.specs.declared.chain.FreshPage.{FreshPage}
use Rattle.rr_checkpoint.proofs.plan.laying.pages_of.Given as goal

abbrev pub invariant-loop-page : goal.invariant-loop-page
invariant-loop-page l = l.pages.items ≡ map (λ (fresh : FreshPage). fresh.page) (take l.page-index l.fresh)
