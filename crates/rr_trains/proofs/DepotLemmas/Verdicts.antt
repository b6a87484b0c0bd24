-- What a command has that isn't refused.
use Rattle.std.specs.Prelude.{◌≡◌, ℕ, ◌==◌, Bool, true, false, not, Option, None, Some, is_some, if◌then◌else◌, ◌&&◌, refl}
use Rattle.rr_roster.specs.declared.company.Private.{Private}
use Rattle.rr_roster.specs.declared.company.Corp.{Corp}
use Rattle.rr_roster.specs.declared.company.Kind.{Kind}
use Rattle.rr_roster.specs.Terms.{Terms, face_of, price_of, trade_of}
use Rattle.rr_roster.specs.declared.sources.TrainSource.{TrainSource}
use Rattle.rr_market.specs.Operations.Phases.{phase}
use Rattle.rr_trains.specs.Phases.{sells_privates}
use Rattle.rr_trains.specs.Sales.{is_on_sale}
use Rattle.rr_books.specs.declared.refusal.Refusal.{Refusal}
use Rattle.rr_books.specs.declared.refusal.Refusal.TheVariants as F
use Rattle.rr_trains.specs.declared.depot.purchases.Deal.{Deal}
use Rattle.rr_trains.specs.Depot.Rules.{deal_verdict, has_room, has_seller, is_out_of_bounds, is_president, is_short, is_transferable, may_trade, owner, private_verdict, trade_verdict, train_verdict}
use Rattle.rr_trains.specs.Depot.Situation.{Situation}

-- a test that refuses nothing fails, and so do those behind it
passed : (b : Bool) (fault : Refusal) (others : Option Refusal) → (if b then Some fault else others) ≡ None → (b ≡ false) × (others ≡ None)
passed true fault others e = absurd (cc)
passed false fault others e = (refl, e)

holds : (b : Bool) (fault : Refusal) (others : Option Refusal) → (if not b then Some fault else others) ≡ None → (b ≡ true) × (others ≡ None)
holds true fault others e = (refl, e)
holds false fault others e = absurd (cc)

-- a train of the bank or the pool
pub record MayBuy (roster : Terms) (t : Situation) (c : Corp) (kind : Kind) (source : TrainSource) : Type 0 where
  pub on_sale : is_on_sale t.trains kind source ≡ true
  pub room : has_room t.trains c ≡ true
  pub enough : is_short t c (price_of roster kind) ≡ false

pub may_buy : (roster : Terms) (t : Situation) (c : Corp) (kind : Kind) (source : TrainSource) → train_verdict roster t c kind source ≡ None → MayBuy roster t c kind source
unfolding train_verdict
may_buy roster t c kind source lawful =
    let cash = if is_short t c (price_of roster kind) then Some F.TooLittleCash else None in
    let room = if not (has_room t.trains c) then Some F.TrainLimit else cash in
    let one = holds (is_on_sale t.trains kind source) F.NotOnSale room lawful in
    let two = holds (has_room t.trains c) F.TrainLimit cash one.1 in
    let three = passed (is_short t c (price_of roster kind)) F.TooLittleCash None two.1 in
    record { on_sale = one.0; room = two.0; enough = three.0 }

-- another corporation's train
pub record MayDeal (t : Situation) (d : Deal) : Type 0 where
  pub room : has_room t.trains d.corp ≡ true
  pub enough : is_short t d.corp d.price ≡ false

pub may_deal : (t : Situation) (d : Deal) → deal_verdict t d ≡ None → MayDeal t d
unfolding deal_verdict
may_deal t d lawful =
    let cash = if is_short t d.corp d.price then Some F.TooLittleCash else None in
    let room = if not (has_room t.trains d.corp) then Some F.TrainLimit else cash in
    let bounds = if d.price == 0 then Some F.PriceOutOfBounds else room in
    let agreed = is_president t.holders d.corp d.president && is_president t.holders d.seller d.seller_president in
    let one = holds (has_seller t.trains d.corp d.kind d.seller) F.NotOnSale (if not agreed then Some F.NotYourTurn else bounds) lawful in
    let two = holds agreed F.NotYourTurn bounds one.1 in
    let three = passed (d.price == 0) F.PriceOutOfBounds room two.1 in
    let four = holds (has_room t.trains d.corp) F.TrainLimit cash three.1 in
    let five = passed (is_short t d.corp d.price) F.TooLittleCash None four.1 in
    record { room = four.0; enough = five.0 }

-- a train handed in for a D
pub record MayTrade (roster : Terms) (t : Situation) (c : Corp) (kind : Kind) : Type 0 where
  pub trains : may_trade t.trains c kind ≡ true
  pub enough : is_short t c (trade_of roster) ≡ false

pub may_hand_in : (roster : Terms) (t : Situation) (c : Corp) (kind : Kind) → trade_verdict roster t c kind ≡ None → MayTrade roster t c kind
unfolding trade_verdict
may_hand_in roster t c kind lawful =
    let cash = if is_short t c (trade_of roster) then Some F.TooLittleCash else None in
    let one = holds (may_trade t.trains c kind) F.NotOnSale cash lawful in
    let two = passed (is_short t c (trade_of roster)) F.TooLittleCash None one.1 in
    record { trains = one.0; enough = two.0 }

-- a private
pub record MayTake (roster : Terms) (t : Situation) (c : Corp) (p : Private) (price : ℕ) : Type 0 where
  pub phase : sells_privates (phase t.trains) ≡ true
  pub bounds : is_out_of_bounds (face_of roster p) price ≡ false
  pub enough : is_short t c price ≡ false

pub may_take : (roster : Terms) (t : Situation) (c : Corp) (p : Private) (price : ℕ) → private_verdict roster t c p price ≡ None → MayTake roster t c p price
unfolding private_verdict
may_take roster t c p price lawful =
    let cash = if is_short t c price then Some F.TooLittleCash else None in
    let bounds = if is_out_of_bounds (face_of roster p) price then Some F.PriceOutOfBounds else cash in
    let sold = is_transferable p && is_some (owner t p) in
    let one = holds (sells_privates (phase t.trains)) F.NotOnSale (if not sold then Some F.NotForSale else bounds) lawful in
    let two = holds sold F.NotForSale bounds one.1 in
    let three = passed (is_out_of_bounds (face_of roster p) price) F.PriceOutOfBounds cash two.1 in
    let four = passed (is_short t c price) F.TooLittleCash None three.1 in
    record { phase = one.0; bounds = three.0; enough = four.0 }
