use Rattle.std.proofs.Common.{refl}
use Rattle.rr_orders.proofs.WrittenLemmas.{best-written}
use Rattle.rr_search.proofs.best_run.wording.write_command.Goals as goal

pub returns : goal.returns
returns c =
    best-written _ c.args.corp _ _ _ _ c.args.certificate.now c.args.sheet.now c.args.certificate.now c.in_ok-write_run.ensures c.in_ok-write_word.ensures.ok refl c.write_part.ensures
