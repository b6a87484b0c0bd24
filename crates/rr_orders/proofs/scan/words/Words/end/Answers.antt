use Rattle.std.proofs.Common.{sym, ap, ◌∙◌}
use Rattle.rr_orders.specs.Scan.Words.{words_left}
use Rattle.rr_orders.proofs.ScanLemmas.WordsLemmas.{words_of-some}
use Rattle.rr_orders.proofs.scan.words.Words.end.Goals as goal

pub returns-in-Some : goal.returns-in-Some
returns-in-Some c =
    λ end. words_of-some c.in-Some.field-0.now (sym (ap words_left c.in-Some.is) ∙ c.self.view_is ∙ end)
