use Rattle.std.proofs.Common.{sym, ◌∙◌}
use Rattle.rr_checker.proofs.FullLemmas.{shared_none}
use Rattle.rr_search.proofs.FoundLemmas.{own_told}
use Rattle.rr_search.proofs.full.journey_of.Goals as goal

pub returns-then-is_shared : goal.returns-then-is_shared
returns-then-is_shared c =
    shared_none c.args.net.now c.args.fates.now c.args.train c.in_ok-own.own.items c.in_ok-others.others.items (c.in_ok-own.ensures {u = tt}) (c.in_ok-others.ensures {u = tt})
    (rw (c.deref.ensures.value, c.deref-2.ensures.value) at (sym c.is_shared.ensures ∙ c.if-is_shared.true))

pub returns : goal.returns
returns c =
    own_told c.args.net.now c.args.fates.now c.args.train c.in_ok-own.own.items c.in_ok-others.others.items (c.in_ok-own.ensures {u = tt}) (c.in_ok-others.ensures {u = tt})
    (rw (c.deref.ensures.value, c.deref-2.ensures.value) at (sym c.is_shared.ensures ∙ c.if-is_shared.false)) c.in_ok-journey.journey
    (rw (c.deref-3.ensures.value, c.requires) at (c.in_ok-journey.ensures {u = tt}))
