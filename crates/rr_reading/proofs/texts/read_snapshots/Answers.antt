use Rattle.std.proofs.Common.{◌≡◌, true, subst, sym, arith}
use Rattle.std.proofs.lemmas.Result.{err_from_is_err_and}
use Rattle.rr_pages.specs.declared.reading.FollowedChain.{FollowedChain}
use Rattle.rr_pages.specs.Links.{all_fit}
use Rattle.rr_reading.proofs.FormLemmas.{fits_at}
use Rattle.rr_reading.proofs.texts.read_snapshots.Goals as goal

pub returns-in_err-snapshot-clause-device : goal.returns-in_err-snapshot-clause-device
returns-in_err-snapshot-clause-device g c = λ count fit.
    let p = err_from_is_err_and c.from_residual.result c.from_residual.ensures.1 in
    let chain = c.chain-item.result in
    let within = fits_at count c.args.chains.now c.loop-chain.chain-index chain fit (omega (arith, c.loop-chain-test.true)) in
    let fits = subst (λ (at : FollowedChain). all_fit count at.links.items ≡ true) (sym c.chain-item.is) within in
    rw (p.1, p.2, sym c.loop-chain.invariant.same_len) (c.in_err-snapshot.ensures.device count fits)
