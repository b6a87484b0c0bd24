use Rattle.std.proofs.Common.{◌≡◌, drop}
use Rattle.rr_checkpoint.specs.Pages.{pages_with}
use Rattle.rr_checkpoint.proofs.writer.page_count.Given as goal

abbrev pub invariant-loop-page : goal.invariant-loop-page
invariant-loop-page l = pages_with l.most (drop l.page-index l.fresh) ≡ pages_with l.fn.count l.fresh
