use Rattle.std.proofs.Common.{◌+◌, ◌*◌, get_or, sym, ap, ◌∙◌, arith}
use Rattle.rr_pages.proofs.MarkLemmas.{length-marks_in, bit_by_mark}
use Rattle.rr_pages.proofs.WordLemmas.{bit_of-at}
use Rattle.std.specs.Int.{bit_at}
use Rattle.rr_pages.proofs.PageSetLemmas.{fit_of}
use Rattle.rr_pages.proofs.page_set.PageSet.words.Goals as goal

pub returns-clause-count : goal.returns-clause-count
returns-clause-count c = omega (arith, (fit_of c.args.self.now).whole, c.deref.ensures.len, length-marks_in c.args.self.now.pages c.args.self.now.words.items)

pub returns-clause-bits : goal.returns-clause-bits
returns-clause-bits c j i lt =
    ap (λ words. bit_at (get_or words j 0) i) c.deref.ensures.value
    ∙ sym (bit_of-at c.args.self.now.words.items j i lt) ∙ bit_by_mark c.args.self.now.pages c.args.self.now.words.items (64 * j + i) (fit_of c.args.self.now).past
