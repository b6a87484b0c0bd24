use Rattle.std.proofs.Common.{sym}
use Rattle.rr_pages.proofs.MarkLemmas.{length-marks_in}
use Rattle.rr_pages.proofs.page_set.PageSet.pages.Goals as goal

pub returns : goal.returns
returns c = sym (length-marks_in c.args.self.now.pages c.args.self.now.words.items)
