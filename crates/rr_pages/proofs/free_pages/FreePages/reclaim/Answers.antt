use Rattle.std.proofs.Common.{subst, sym}
use Rattle.rr_pages.specs.FreePages.{present_of, coming_of}
use Rattle.rr_pages.specs.PageSet.{marks_of}
use Rattle.rr_pages.specs.ReachedPages as reached
use Rattle.rr_pages.specs.Sets.{HasTaken}
use Rattle.rr_pages.specs.declared.reached_pages.ReachedPages.{ReachedPages}
use Rattle.rr_pages.proofs.TakenLemmas.{taken_of, turned}
use Rattle.rr_pages.proofs.free_pages.FreePages.reclaim.Goals as goal

pub invariant_of-self : goal.invariant_of-self
invariant_of-self c =
    let pages = c.args.self.now in
    let taken = marks_of pages.taken in
    let told = turned (present_of pages) (coming_of pages) taken (taken_of pages) in
    let first = subst (λ (x : ReachedPages). HasTaken (reached.marks_of x) (present_of pages) taken) (sym c.swap.ensures.x_after) told in
    record { told = ∣ subst (λ (y : ReachedPages). HasTaken (reached.marks_of c.swap.new.x) (reached.marks_of y) taken) (sym c.swap.ensures.y_after) first ∣₁ }
