use Rattle.std.proofs.Common.{◌≡◌, ◌+◌, true, List, drop, sym, subst, arith}
use Rattle.rr_pages.specs.declared.reading.FollowedChain.{FollowedChain}
use Rattle.rr_reading.specs.Lending.Fitting.{each_fits, links_at}
use Rattle.rr_reading.proofs.LendingLemmas.LinkLemmas.{fit_left, on_err}
use Rattle.rr_reading.proofs.lending.chains.Chains.advance.Goals as goal

pub load-requires : goal.load-requires
load-requires g c =
    let old = c.args.self.now in
    let rest = drop (old.passed + 1) (links_at c.deref.result.now old.index) in
    let fit = fit_left old.count c.deref.result.now old.index old.passed c.in-Some.link rest (subst (λ (all : List FollowedChain). each_fits old.count all ≡ true) (sym c.deref.ensures.value) old.fit) c.in-Some.ensures.link in
    omega (arith, fit.1)

pub returns-in_err-load-in-Some-clause-device : goal.returns-in_err-load-in-Some-clause-device
returns-in_err-load-in-Some-clause-device g c =
    let old = c.args.self.now in
    let rest = drop (old.passed + 1) (links_at c.deref.result.now old.index) in
    let fit = fit_left old.count c.deref.result.now old.index old.passed c.in-Some.link rest (subst (λ (all : List FollowedChain). each_fits old.count all ≡ true) (sym c.deref.ensures.value) old.fit) c.in-Some.ensures.link in
    on_err c.from_residual.result (λ works. omega (arith, c.in_err-load-in-Some.ensures.device works, fit.0, fit.1))
