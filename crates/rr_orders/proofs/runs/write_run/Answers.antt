use Rattle.std.proofs.Common.{◌∙◌}
use Rattle.rr_orders.proofs.ScanLemmas.WordsLemmas.{Continues-added}
use Rattle.rr_orders.proofs.WrittenLemmas.{run-written}
use Rattle.rr_orders.proofs.runs.write_run.Goals as goal

pub returns-clause-ok : goal.returns-clause-ok
returns-clause-ok c =
    run-written _ c.args.corp _ _ _ _ _ _ _ c.in_ok-extend_from_slice.ensures.items c.in_ok-write_word.ensures.ok (c.as_bytes.ensures.value ∙ c.name.ensures) c.as_bytes-2.ensures.value c.write_part.ensures.ok

pub returns-clause-kept : goal.returns-clause-kept
returns-clause-kept c =
    Continues-added _ _ _ _ c.in_ok-extend_from_slice.ensures.items (Continues-added _ _ _ _ c.in_ok-write_word.ensures.ok c.write_part.ensures.kept)
