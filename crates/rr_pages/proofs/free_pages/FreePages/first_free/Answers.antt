use Rattle.std.proofs.Common.{ℕ, Option, MatchOption, sym, subst}
use Rattle.rr_pages.specs.FreePages.{present_of, coming_of}
use Rattle.rr_pages.specs.PageSet.{marks_of}
use Rattle.rr_pages.specs.Sets.{IsFirstFree, NoneFree}
use Rattle.rr_pages.proofs.TakenLemmas.{first_is_free, taken_of}
use Rattle.rr_pages.proofs.free_pages.FreePages.first_free.Goals as goal

pub returns : goal.returns
returns c =
    let pages = c.args.self.now in
    subst (λ (first : Option ℕ). MatchOption first (NoneFree (present_of pages) (coming_of pages)) (λ page. IsFirstFree (present_of pages) (coming_of pages) page)) (sym c.first_free.ensures)
    (first_is_free (present_of pages) (coming_of pages) (marks_of pages.taken) (taken_of pages))
