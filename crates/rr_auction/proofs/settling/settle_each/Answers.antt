use Rattle.std.proofs.Common.{◌≡◌, ℕ, arith, map, take, subst}
use Rattle.rr_books.specs.Shares.{privates}
use Rattle.rr_desk.specs.Effects.{in_turn}
use Rattle.rr_desk.specs.Desk.{Takes}
use Rattle.rr_auction.specs.Effects.{settle_each, settles}
use Rattle.rr_auction.proofs.settling.settle_each.Goals as goal

pub returns-clause-takes : goal.returns-clause-takes
unfolding settle_each
returns-clause-takes c =
    let six : c.loop-private.private-index ≡ 6 = omega arith in
    let So : ℕ → Type 0 = λ n. Takes (in_turn (map settles (take n privates))) c.args.desk.now c.loop-private.desk in
    subst So six c.loop-private.invariant
