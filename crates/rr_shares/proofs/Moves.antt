-- How a desk takes moves of shares, one after another.
use Rattle.std.proofs.Common.{ℕ, ◌+◌, [], ◌∷◌, suc, sym, subst, add-one}
use Rattle.rr_roster.specs.declared.company.Corp.{Corp}
use Rattle.rr_books.specs.declared.parties.Place.{Place}
use Rattle.rr_desk.specs.Effects.{Effect, in_turn, moves_lowest_share}
use Rattle.rr_shares.specs.Effects.{moves_lowest_shares}
use Rattle.rr_desk.specs.Desk.{OnDesk, Takes}
use Rattle.rr_desk.proofs.Taking.{takes_nothing, takes_then}

-- two effects
pub takes_two : (f g : Effect) (a b c : OnDesk) → Takes f a b → Takes g b c → Takes (in_turn (f ∷ g ∷ [])) a c
takes_two f g a b c first second =
    takes_then f (g ∷ []) a b c first (takes_then g [] b c c second (takes_nothing c))

-- none of the lowest
pub moves_none : (corp : Corp) (from to : Place) (d : OnDesk) → Takes (moves_lowest_shares corp 0 from to) d d
unfolding moves_lowest_shares
moves_none corp from to d = takes_nothing d

-- one more of the lowest
pub moves_one_more : (corp : Corp) (n : ℕ) (from to : Place) (a b c : OnDesk) → Takes (moves_lowest_shares corp n from to) a b → Takes (moves_lowest_share corp from to) b c → Takes (moves_lowest_shares corp (n + 1) from to) a c
unfolding moves_lowest_shares
moves_one_more corp n from to a b c before last =
    let So : ℕ → Type 0 = λ k. Takes (moves_lowest_shares corp k from to) a c in
    subst So (sym (add-one n)) (with_one n before)
  where
    with_one : (k : ℕ) → Takes (moves_lowest_shares corp k from to) a b → Takes (moves_lowest_shares corp (suc k) from to) a c
    with_one k h = takes_two (moves_lowest_shares corp k from to) (moves_lowest_share corp from to) a b c h last
