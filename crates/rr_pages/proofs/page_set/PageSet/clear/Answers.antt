use Rattle.std.proofs.Common.{arith, sym, ap, ◌∙◌}
use Rattle.rr_pages.specs.Marks.{bit_of}
use Rattle.rr_pages.proofs.MarkLemmas.{length-marks_in, unmarked}
use Rattle.rr_pages.proofs.PageSetLemmas.{fit_of}
use Rattle.rr_pages.proofs.WordLemmas.{bit_of-zeros, zeros_fit}
use Rattle.rr_pages.proofs.page_set.PageSet.clear.Goals as goal

pub invariant_of-self : goal.invariant_of-self
invariant_of-self c =
    let set = c.args.self.now in
    record { sound = ∣ zeros_fit set.pages _ c.fill.new.self.items (c.fill.ensures.items (λ y e. e)) (omega (arith, set.words.ok, (fit_of set).whole)) ∣₁ }

pub returns-clause-empty : goal.returns-clause-empty
returns-clause-empty c =
    unmarked c.args.self.now.pages c.fill.new.self.items
    (λ page. ap (λ words. bit_of words page) (c.fill.ensures.items (λ y e. e)) ∙ bit_of-zeros _ page)

pub returns-clause-whole : goal.returns-clause-whole
returns-clause-whole c = length-marks_in c.args.self.now.pages c.fill.new.self.items ∙ sym (length-marks_in c.args.self.now.pages c.args.self.now.words.items)
