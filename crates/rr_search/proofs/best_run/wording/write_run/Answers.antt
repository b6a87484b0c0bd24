use Rattle.std.proofs.Common.{refl, ◌∙◌}
use Rattle.rr_orders.proofs.WrittenLemmas.{run-written}
use Rattle.rr_search.proofs.best_run.wording.write_run.Goals as goal

pub returns : goal.returns
returns c =
    run-written _ c.args.corp _ _ _ _ _ c.args.sheet.now c.args.sheet.now c.in_ok-extend_from_slice.ensures.items c.in_ok-write_word.ensures.ok (c.as_bytes.ensures.value ∙ c.name.ensures) refl c.write_part.ensures
