use Rattle.std.proofs.Common.{◌≡◌, inr, refl, arith}
use Rattle.rr_store.proofs.RecoveryLemmas.ShownLemmas.{is_wrong}
use Rattle.rr_store.proofs.recovery.shown.keep_shown.Goals as goal

pub returns-in-None-clause-refused : goal.returns-in-None-clause-refused
returns-in-None-clause-refused c =
    let same : c.args.entry.now.table ≡ c.args.index = omega (arith, c.if-entry-index.false) in
    inr (refl, is_wrong c.args.index c.args.entry.now c.args.chain.now same (rw c.in-None.is at c.in_ok-snapshot.ensures.value))
