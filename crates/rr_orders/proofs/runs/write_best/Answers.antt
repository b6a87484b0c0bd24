use Rattle.rr_orders.proofs.WrittenLemmas.{best-written}
use Rattle.rr_orders.proofs.runs.write_best.Goals as goal

pub returns-clause-ok : goal.returns-clause-ok
returns-clause-ok c =
    best-written _ c.args.corp _ _ _ _ _ c.args.sheet.now c.args.certificate.now c.in_ok-write_run.ensures.ok c.in_ok-write_word.ensures.ok c.as_bytes.ensures.value c.write_part.ensures.ok
