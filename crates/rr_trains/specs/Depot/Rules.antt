-- The rules on what a corporation buys besides tiles and tokens, from a table's book and the roster alone.
use Rattle.std.specs.Prelude.{ℕ, ◌*◌, ◌==◌, pos, int_lt, Bool, true, false, not, nat_lt, Option, None, Some, is_some, if◌then◌else◌, ◌&&◌, ◌||◌}
use Rattle.rr_roster.specs.declared.company.Private.{Private}
use Rattle.rr_roster.specs.declared.company.Private.TheVariants as V
use Rattle.rr_roster.specs.declared.company.Corp.{Corp}
use Rattle.rr_roster.specs.declared.company.Kind.{Kind}
use Rattle.rr_roster.specs.declared.company.Kind.TheVariants as K
use Rattle.rr_roster.specs.Terms.{Terms, face_of, price_of, trade_of}
use Rattle.rr_books.specs.declared.parties.Seat.{Seat}
use Rattle.rr_books.specs.declared.parties.Party.TheVariants as P
use Rattle.rr_books.specs.declared.parties.Place.{Place}
use Rattle.rr_books.specs.declared.parties.Place.TheVariants as L
use Rattle.rr_books.specs.declared.certificates.Cert.TheVariants as C
use Rattle.rr_books.specs.declared.acts.Act.{Act}
use Rattle.rr_books.specs.declared.acts.Act.TheVariants as A
use Rattle.rr_roster.specs.declared.sources.TrainSource.{TrainSource}
use Rattle.rr_roster.specs.declared.sources.TrainSource.TheVariants as S
use Rattle.rr_books.specs.Book.{Book}
use Rattle.rr_books.specs.Same.{same_corp}
use Rattle.rr_books.specs.Shares.{Holders, is_at}
use Rattle.rr_market.specs.Operations.Phases.{TrainHolders, phase}
use Rattle.rr_trains.specs.Places.{has_train_at, trains_held}
use Rattle.rr_trains.specs.Phases.{is_over_train_limit, sells_privates, train_limit}
use Rattle.rr_trains.specs.Sales.{is_on_sale, is_traded_in}
use Rattle.rr_books.specs.declared.refusal.Refusal.{Refusal}
use Rattle.rr_books.specs.declared.refusal.Refusal.TheVariants as F
use Rattle.rr_trains.specs.declared.depot.purchases.Deal.{Deal}
use Rattle.rr_trains.specs.Depot.Situation.{Situation, situation_of}

-- the corporation has less than the amount
abbrev pub is_short : Situation → Corp → ℕ → Bool
is_short t c amount = int_lt (t.money (P.Corp c)) (pos amount)

-- the corporation has fewer trains than the phase allows, so that there is room for one more
abbrev pub has_room : TrainHolders → Corp → Bool
has_room trains c = nat_lt (trains_held trains (L.Corp c)) (train_limit (phase trains))

-- the seat holds the corporation's 20% certificate
abbrev pub is_president : Holders → Corp → Seat → Bool
is_president holders c s = is_at (holders (C.President c)) (L.Seat s)

-- another corporation has a train of the kind
abbrev pub has_seller : TrainHolders → Corp → Kind → Corp → Bool
has_seller trains c kind seller = not (same_corp seller c) && has_train_at trains (L.Corp seller) kind

-- the player at a place, if the place is one at a table of so many
abbrev pub player_at : ℕ → Option Place → Option Seat
player_at n (Some (L.Seat s)) = if nat_lt s.0 n then Some s else None
player_at n _ = None

-- the player that has a private; none has a closed one
abbrev pub owner : Situation → Private → Option Seat
owner t p = player_at t.players (t.holders (C.Private p))

-- corporations may have the private: all but the B&O's
abbrev pub is_transferable : Private → Bool
is_transferable V.Bo = false
is_transferable _ = true

-- a price is above twice the face, or below half of it
abbrev pub is_out_of_bounds : ℕ → ℕ → Bool
is_out_of_bounds face price = nat_lt (2 * face) price || nat_lt (2 * price) face

-- why a train of the bank or the pool can't be bought, if it can't
unfoldable pub train_verdict : Terms → Situation → Corp → Kind → TrainSource → Option Refusal
train_verdict roster t c kind source =
    if not (is_on_sale t.trains kind source) then Some F.NotOnSale
    else if not (has_room t.trains c) then Some F.TrainLimit
    else if is_short t c (price_of roster kind) then Some F.TooLittleCash
    else None

-- what a command says: a train of one corporation for another, at a price on which two seats agree
abbrev pub deal : Corp → Kind → Corp → ℕ → Seat → Seat → Deal
deal c kind seller price s s2 = record { corp = c; kind = kind; seller = seller; price = price; president = s; seller_president = s2 }

-- why another corporation's train can't be bought, if it can't
unfoldable pub deal_verdict : Situation → Deal → Option Refusal
deal_verdict t d =
    if not (has_seller t.trains d.corp d.kind d.seller) then Some F.NotOnSale
    else if not (is_president t.holders d.corp d.president && is_president t.holders d.seller d.seller_president) then Some F.NotYourTurn
    else if d.price == 0 then Some F.PriceOutOfBounds
    else if not (has_room t.trains d.corp) then Some F.TrainLimit
    else if is_short t d.corp d.price then Some F.TooLittleCash
    else None

-- the corporation has a train of a kind that may be handed in, and the bank sells a D
abbrev pub may_trade : TrainHolders → Corp → Kind → Bool
may_trade trains c kind = is_traded_in kind && has_train_at trains (L.Corp c) kind && is_on_sale trains K.Diesel S.Bank

-- why a train can't be handed in for a D, if it can't; the number of trains stays, so no limit is looked at
unfoldable pub trade_verdict : Terms → Situation → Corp → Kind → Option Refusal
trade_verdict roster t c kind =
    if not (may_trade t.trains c kind) then Some F.NotOnSale
    else if is_short t c (trade_of roster) then Some F.TooLittleCash
    else None

-- why a train can't be given up, if it can't: only a corporation over its limit does
unfoldable pub discard_verdict : Situation → Corp → Kind → Option Refusal
discard_verdict t c kind =
    if not (is_over_train_limit t.trains c) then Some F.WrongStep
    else if not (has_train_at t.trains (L.Corp c) kind) then Some F.NotOnSale
    else None

-- why a private can't be bought from a player, if it can't
unfoldable pub private_verdict : Terms → Situation → Corp → Private → ℕ → Option Refusal
private_verdict roster t c p price =
    if not (sells_privates (phase t.trains)) then Some F.NotOnSale
    else if not (is_transferable p && is_some (owner t p)) then Some F.NotForSale
    else if is_out_of_bounds (face_of roster p) price then Some F.PriceOutOfBounds
    else if is_short t c price then Some F.TooLittleCash
    else None

-- why a command is refused, if it is, once the step and the turn are right
abbrev pub verdict_in : Terms → Situation → Act → Option Refusal
verdict_in roster t (A.BuyTrain c kind source) = train_verdict roster t c kind source
verdict_in roster t (A.BuyTrainFrom c kind seller price s s2) = deal_verdict t (deal c kind seller price s s2)
verdict_in roster t (A.Trade c kind) = trade_verdict roster t c kind
verdict_in roster t (A.Discard c kind) = discard_verdict t c kind
verdict_in roster t (A.TakePrivate c p price) = private_verdict roster t c p price
verdict_in roster t _ = Some F.WrongStep

abbrev pub verdict : Terms → Book → Act → Option Refusal
verdict roster book act = verdict_in roster (situation_of book) act
