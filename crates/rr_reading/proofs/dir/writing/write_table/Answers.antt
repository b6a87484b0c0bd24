use Rattle.rr_reading.proofs.DirLemmas.NumberLemmas.{Continues-added}
use Rattle.rr_reading.proofs.dir.writing.write_table.Goals as goal

pub returns-in_err-write_u64-clause-kept : goal.returns-in_err-write_u64-clause-kept
returns-in_err-write_u64-clause-kept c =
    Continues-added _ _ _ _ c.in_ok-push.ensures.items (Continues-added _ _ _ _ c.in_ok-extend_from_slice.ensures.items c.in_err-write_u64.ensures.kept)

pub returns-in_err-write_u32-clause-kept : goal.returns-in_err-write_u32-clause-kept
returns-in_err-write_u32-clause-kept c =
    Continues-added _ _ _ _ c.in_ok-push.ensures.items (Continues-added _ _ _ _ c.in_ok-extend_from_slice.ensures.items (Continues-added _ _ _ _ c.in_ok-write_u64.ensures.ok c.in_err-write_u32.ensures.kept))

pub returns-in_err-write_u32-2-clause-kept : goal.returns-in_err-write_u32-2-clause-kept
returns-in_err-write_u32-2-clause-kept c =
    Continues-added _ _ _ _ c.in_ok-push.ensures.items (Continues-added _ _ _ _ c.in_ok-extend_from_slice.ensures.items (Continues-added _ _ _ _ c.in_ok-write_u64.ensures.ok
    (Continues-added _ _ _ _ c.in_ok-write_u32.ensures.ok c.in_err-write_u32-2.ensures.kept)))

pub returns-in_err-write_chain-clause-kept : goal.returns-in_err-write_chain-clause-kept
returns-in_err-write_chain-clause-kept c =
    Continues-added _ _ _ _ c.in_ok-push.ensures.items (Continues-added _ _ _ _ c.in_ok-extend_from_slice.ensures.items (Continues-added _ _ _ _ c.in_ok-write_u64.ensures.ok
    (Continues-added _ _ _ _ c.in_ok-write_u32.ensures.ok (Continues-added _ _ _ _ c.in_ok-write_u32-2.ensures.ok c.in_err-write_chain.ensures.kept))))
