use Rattle.rr_orders.proofs.ScanLemmas.WordsLemmas.{Continues-added}
use Rattle.rr_orders.proofs.trains.write_train_from.Goals as goal

pub returns-in_err-write_word-3-clause-kept : goal.returns-in_err-write_word-3-clause-kept
returns-in_err-write_word-3-clause-kept c =
    Continues-added _ _ _ _ c.in_ok-extend_from_slice.ensures.items (Continues-added _ _ _ _ c.in_ok-write_word.ensures.ok (Continues-added _ _ _ _ c.in_ok-write_word-2.ensures.ok c.in_err-write_word-3.ensures.kept))

pub returns-in_err-write_number-clause-kept : goal.returns-in_err-write_number-clause-kept
returns-in_err-write_number-clause-kept c =
    Continues-added _ _ _ _ c.in_ok-extend_from_slice.ensures.items (Continues-added _ _ _ _ c.in_ok-write_word.ensures.ok (Continues-added _ _ _ _ c.in_ok-write_word-2.ensures.ok (Continues-added _ _ _ _ c.in_ok-write_word-3.ensures.ok c.in_err-write_number.ensures.kept)))

pub returns-in_err-write_word-4-clause-kept : goal.returns-in_err-write_word-4-clause-kept
returns-in_err-write_word-4-clause-kept c =
    Continues-added _ _ _ _ c.in_ok-extend_from_slice.ensures.items (Continues-added _ _ _ _ c.in_ok-write_word.ensures.ok (Continues-added _ _ _ _ c.in_ok-write_word-2.ensures.ok (Continues-added _ _ _ _ c.in_ok-write_word-3.ensures.ok (Continues-added _ _ _ _ c.in_ok-write_number.ensures.ok c.in_err-write_word-4.ensures.kept))))

pub returns-clause-kept : goal.returns-clause-kept
returns-clause-kept c =
    Continues-added _ _ _ _ c.in_ok-extend_from_slice.ensures.items (Continues-added _ _ _ _ c.in_ok-write_word.ensures.ok (Continues-added _ _ _ _ c.in_ok-write_word-2.ensures.ok (Continues-added _ _ _ _ c.in_ok-write_word-3.ensures.ok (Continues-added _ _ _ _ c.in_ok-write_number.ensures.ok (Continues-added _ _ _ _ c.in_ok-write_word-4.ensures.ok c.write_word-5.ensures.kept)))))
