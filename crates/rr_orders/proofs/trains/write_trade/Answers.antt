use Rattle.rr_orders.proofs.ScanLemmas.WordsLemmas.{Continues-added}
use Rattle.rr_orders.proofs.trains.write_trade.Goals as goal

pub returns-clause-kept : goal.returns-clause-kept
returns-clause-kept c =
    Continues-added _ _ _ _ c.in_ok-extend_from_slice.ensures.items (Continues-added _ _ _ _ c.in_ok-write_word.ensures.ok c.write_word-2.ensures.kept)
