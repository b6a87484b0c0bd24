use Rattle.std.proofs.Common.{inl, inr}
use Rattle.rr_referee.proofs.LawLemmas.{none_broken}
use Rattle.rr_search.proofs.best_run.finding.revenue_of.Goals as goal

pub unreachable-requires : goal.unreachable-requires
unreachable-requires c =
    elim c.in-Err-IllegalSheet.ensures.judged [
      | inl none ↦ let other = c.in-Err-IllegalSheet.field-0-is in cc
      | inr broken ↦ none_broken c.args.net.now c.args.sheet.now c.requires.legal.0 broken.0 c.requires.legal.1 broken.2
    ]
