use Rattle.std.proofs.Common.{length, sym, ap, ◌∙◌, arith}
use Rattle.rr_pages.specs.Marks.{bit_of}
use Rattle.rr_pages.proofs.MarkLemmas.{found, not_found}
use Rattle.rr_pages.proofs.PageSetLemmas.{fit_of}
use Rattle.rr_pages.proofs.page_set.PageSet.first_free.Goals as goal

pub first_zero-page-requires : goal.first_zero-page-requires
first_zero-page-requires c = omega (arith, (fit_of c.args.self.now).whole, ap length c.deref.ensures.value)

pub returns-then-page-pages : goal.returns-then-page-pages
returns-then-page-pages c =
    let set = c.args.self.now in
    let e = c.deref.ensures.value in
    sym (found set.pages set.words.items c.first_zero-page.result (omega arith)
    (λ page lt. ap (λ words. bit_of words page) (sym e) ∙ c.first_zero-page.ensures.set page lt)
    (ap (λ words. bit_of words c.first_zero-page.result) (sym e) ∙ c.first_zero-page.ensures.zero (omega (arith, (fit_of set).whole, ap length e))))

pub returns-else-page-pages : goal.returns-else-page-pages
returns-else-page-pages c =
    let set = c.args.self.now in
    sym (not_found set.pages set.words.items (λ page lt. ap (λ words. bit_of words page) (sym c.deref.ensures.value) ∙ c.first_zero-page.ensures.set page (omega arith)))
