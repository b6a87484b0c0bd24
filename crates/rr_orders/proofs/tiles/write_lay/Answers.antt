use Rattle.rr_orders.proofs.ScanLemmas.WordsLemmas.{Continues-added}
use Rattle.rr_orders.proofs.tiles.write_lay.Goals as goal

pub returns-clause-kept : goal.returns-clause-kept
returns-clause-kept c =
    Continues-added _ _ _ _ c.in_ok-extend_from_slice.ensures.items (Continues-added _ _ _ _ c.in_ok-write_word.ensures.ok (Continues-added _ _ _ _ c.in_ok-write_word-2.ensures.ok (Continues-added _ _ _ _ c.in_ok-write_number.ensures.ok c.write_number-2.ensures.kept)))
