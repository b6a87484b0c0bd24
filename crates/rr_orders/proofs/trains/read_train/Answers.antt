use Rattle.std.proofs.Common.{sym}
use Rattle.rr_orders.proofs.SpelledLemmas.{no_last, no_seller, not-ended}
use Rattle.rr_orders.proofs.trains.read_train.Goals as goal

pub returns-in_err-seller-clause-exact : goal.returns-in_err-seller-clause-exact
returns-in_err-seller-clause-exact c =
    let more = not-ended _ _ _ c.end.ensures c.is_some.ensures c.if-is_some.false in
    let none = no_seller _ _ _ _ _ _ _ c.in_ok-next.ensures c.in_ok-next-2.ensures c.in_ok-word.ensures more (sym c.in_err-seller.ensures.exact) in
    let back = c.from_residual-in_err-seller.ensures in
    cc

pub returns-in_err-last-clause-exact : goal.returns-in_err-last-clause-exact
returns-in_err-last-clause-exact c =
    let none = no_last _ _ _ _ _ _ _ _ _ _ _ c.in_ok-next.ensures c.in_ok-next-2.ensures c.in_ok-word.ensures c.in_ok-next-3.ensures c.in_ok-buyer_president.ensures.1 c.in_err-last.ensures in
    let back = c.from_residual-in_err-last.ensures in
    cc
