-- What the names in commands and queries stand for at a table.
use Rattle.std.specs.Prelude.{ℕ, List, [], Option, None, Some, option_and_then, option_map, bytes_eq, position}
use Rattle.rr_books.specs.declared.acts.Act.{Act}
use Rattle.rr_books.specs.declared.acts.Act.TheVariants as A
use Rattle.rr_books.specs.declared.parties.Seat.{Seat}
use Rattle.rr_books.specs.declared.parties.Party.{Party}
use Rattle.rr_books.specs.declared.parties.Party.TheVariants as P
use Rattle.rr_books.specs.declared.parties.Place.{Place}
use Rattle.rr_books.specs.declared.parties.Place.TheVariants as L
use Rattle.rr_code.specs.declared.command.Command.{Command}
use Rattle.rr_code.specs.declared.command.Command.TheVariants.{Open, BuyPrivate, Bid, Pass, Par, BuyShare, Sell, Swap, Done, Order}
use Rattle.rr_code.specs.declared.query.Account.{Account}
use Rattle.rr_code.specs.declared.query.Owner.{Owner}
use Rattle.rr_code.specs.declared.query.TrainHolder.{TrainHolder}
use Rattle.rr_orders.specs.declared.order.Order as orders
use Rattle.rr_orders.specs.declared.order.Order.TheVariants as O

-- the seat of a player: the place of the name in the seating order
abbrev pub seat_of : List (List ℕ) → List ℕ → Option Seat
seat_of players name = option_map (λ n. record { 0 = n }) (position (λ other. bytes_eq other name) players)

-- the party whose account it is
abbrev pub party_of : List (List ℕ) → Account → Option Party
party_of players Account.Bank = Some P.Bank
party_of players (Account.Corp corp) = Some (P.Corp corp)
party_of players (Account.Player name) = option_map P.Seat (seat_of players name)

-- the place where an owner's certificates are
abbrev pub owner_place : List (List ℕ) → Owner → Option Place
owner_place players (Owner.Corp corp) = Some (L.Corp corp)
owner_place players (Owner.Player name) = option_map L.Seat (seat_of players name)

-- the place where the trains of a corporation or of the pool are
abbrev pub trains_place : TrainHolder → Place
trains_place TrainHolder.Pool = L.Pool
trains_place (TrainHolder.Corp corp) = L.Corp corp

-- a purchase from another corporation, with the seats of both presidents
abbrev pub purchase_of : List (List ℕ) → List ℕ → List ℕ → (Seat → Seat → Act) → Option Act
purchase_of players president seller_president act =
    option_and_then (λ seat. option_map (act seat) (seat_of players seller_president)) (seat_of players president)

-- an order, with seats in the place of names
abbrev pub act_of_order : List (List ℕ) → orders.Order → Option Act
act_of_order players (O.Lay corp hex tile turn) = Some (A.Lay corp hex tile turn)
act_of_order players (O.Station corp hex centre) = Some (A.Station corp hex centre)
act_of_order players (O.Run corp sheet) = Some (A.Run corp sheet)
act_of_order players (O.RunBest corp sheet certificate) = Some (A.RunBest corp sheet certificate)
act_of_order players (O.PayOut corp) = Some (A.PayOut corp)
act_of_order players (O.Hold corp) = Some (A.Hold corp)
act_of_order players (O.BuyTrain corp kind source) = Some (A.BuyTrain corp kind source)
act_of_order players (O.BuyTrainFrom corp kind seller price president seller_president) =
    purchase_of players president seller_president (λ buys sells. A.BuyTrainFrom corp kind seller price buys sells)
act_of_order players (O.Trade corp kind) = Some (A.Trade corp kind)
act_of_order players (O.Discard corp kind) = Some (A.Discard corp kind)
act_of_order players (O.TakePrivate corp private price) = Some (A.TakePrivate corp private price)
act_of_order players (O.End corp) = Some (A.End corp)
act_of_order players (O.Force corp) = Some (A.Force corp)
act_of_order players (O.Raise player corp count) = option_map (λ seat. A.Raise seat corp count) (seat_of players player)
act_of_order players (O.Bankrupt player) = option_map A.Bankrupt (seat_of players player)

-- a command after the opening, with seats in the place of names; none where a player isn't at the table
abbrev pub act_of : List (List ℕ) → Command → Option Act
act_of players (Open others) = None
act_of players (BuyPrivate player) = option_map A.BuyPrivate (seat_of players player)
act_of players (Bid player private amount) = option_map (λ seat. A.Bid seat private amount) (seat_of players player)
act_of players (Pass player) = option_map A.Pass (seat_of players player)
act_of players (Par player corp price) = option_map (λ seat. A.Par seat corp price) (seat_of players player)
act_of players (BuyShare player corp source) = option_map (λ seat. A.BuyShare seat corp source) (seat_of players player)
act_of players (Sell player corp count) = option_map (λ seat. A.Sell seat corp count) (seat_of players player)
act_of players (Swap player source) = option_map (λ seat. A.Swap seat source) (seat_of players player)
act_of players (Done player) = option_map A.Done (seat_of players player)
act_of players (Order order) = act_of_order players order

-- the price that an order names, if it names one
abbrev pub price_in : orders.Order → ℕ
price_in (O.BuyTrainFrom corp kind seller price president seller_president) = price
price_in (O.TakePrivate corp private price) = price
price_in _ = 0

-- what a command bids or pays, if it names that
abbrev pub amount_in : Command → ℕ
amount_in (Bid player private amount) = amount
amount_in (Order order) = price_in order
amount_in _ = 0
