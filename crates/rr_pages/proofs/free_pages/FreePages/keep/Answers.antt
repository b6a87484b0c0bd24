use Rattle.std.proofs.Common.{Bool, List, arith, subst, sym}
use Rattle.rr_pages.specs.FreePages.{present_of, coming_of}
use Rattle.rr_pages.specs.PageSet.{marks_of}
use Rattle.rr_pages.specs.ReachedPages as reached
use Rattle.rr_pages.specs.Sets.{HasTaken, marked}
use Rattle.rr_pages.proofs.TakenLemmas.{taken_more, taken_of}
use Rattle.rr_pages.proofs.free_pages.FreePages.keep.Goals as goal

pub invariant_of-self : goal.invariant_of-self
invariant_of-self c =
    let pages = c.args.self.now in
    let more = taken_more (present_of pages) (coming_of pages) (marks_of pages.taken) c.args.page (omega (arith, pages.coming.whole, c.requires)) c.requires (taken_of pages) in
    let kept = subst (λ (coming : List Bool). HasTaken (present_of pages) coming (marked (marks_of pages.taken) c.args.page)) (sym c.take.ensures.marks) more in
    record { told = ∣ subst (λ (taken : List Bool). HasTaken (present_of pages) (reached.marks_of c.take.new.self) taken) (sym c.take-2.ensures) kept ∣₁ }
