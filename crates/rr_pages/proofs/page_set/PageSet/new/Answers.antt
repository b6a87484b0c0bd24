use Rattle.std.proofs.Common.{ap, ◌∙◌}
use Rattle.rr_pages.specs.Marks.{bit_of}
use Rattle.rr_pages.proofs.MarkLemmas.{length-marks_in, unmarked}
use Rattle.rr_pages.proofs.WordLemmas.{bit_of-zeros}
use Rattle.rr_pages.proofs.page_set.PageSet.new.Goals as goal

pub returns-clause-empty : goal.returns-clause-empty
returns-clause-empty c = unmarked c.args.pages c.in_ok-words.words.items (λ page. ap (λ words. bit_of words page) c.in_ok-words.ensures ∙ bit_of-zeros _ page)

pub returns-clause-whole : goal.returns-clause-whole
returns-clause-whole c = length-marks_in c.args.pages c.in_ok-words.words.items
